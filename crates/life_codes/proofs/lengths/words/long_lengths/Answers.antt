use Rattle.std.proofs.Common.{◌≡◌, ℕ, ◌+◌, ◌-◌, ◌^◌, ◌/◌, ◌≤◌, ◌<◌, drop, get_or, length, ap, ◌∙◌, arith}
use Rattle.std.specs.Int.{bit_at}
use Rattle.life_cells.specs.Wechsler.{columns_text, zeros}
use Rattle.life_codes.specs.Lengths.Words.{word_columns}
use Rattle.life_codes.proofs.LengthsLemmas.Worded.{length-word_columns, next_column, rest_more, no_more, next_forward, next_backward, first_forward, first_backward, done_forward, done_backward, nothing_forward, nothing_backward}
use Rattle.life_codes.proofs.lengths.words.long_lengths.Goals as goal

whole : (word : ℕ) → word ≡ word / 2 ^ 0
whole word = omega arith

dark : (word wide : ℕ) → ((i : ℕ) → wide ≤ i → bit_at word i ≡ 0) → word ≡ 0 → (i : ℕ) → i < wide → get_or (word_columns wide word) i 0 ≡ 0
dark word wide beyond none i h =
    let at : i ≡ 0 + i = omega arith in
    ap (λ k. get_or (word_columns wide word) k 0) at ∙ no_more word wide beyond word 0 i (whole word) none (omega arith)

pub returns-then-word-eq0-clause-forward : goal.returns-then-word-eq0-clause-forward
returns-then-word-eq0-clause-forward c =
    let word = c.args.word in
    let wide = c.args.wide in
    let long = length-word_columns wide word in
    nothing_forward (word_columns wide word) (λ i h. dark word wide c.requires.beyond c.if-word-eq0.true i (omega arith))

pub returns-then-word-eq0-clause-backward : goal.returns-then-word-eq0-clause-backward
returns-then-word-eq0-clause-backward c =
    let word = c.args.word in
    let wide = c.args.wide in
    let long = length-word_columns wide word in
    nothing_backward (word_columns wide word) (λ i h. dark word wide c.requires.beyond c.if-word-eq0.true i (omega arith))

pub columns-init : goal.columns-init
columns-init c =
    let word = c.args.word in
    let wide = c.args.wide in
    let xs = word_columns wide word in
    let first = c.next_column-first.result.0 in
    let long = length-word_columns wide word in
    let next = next_column word wide c.requires.beyond word 0 first (whole word) c.next_column-first.ensures.live c.next_column-first.ensures.zeros in
    let inside = next.inside in
    record {
      rest = c.next_column-first.ensures.rest;
      some = omega arith;
      within = omega arith;
      forward = first_forward c.zeros_length-lead.result first xs next c.zeros_length-lead.ensures.length;
      backward = first_backward c.zeros_length-lead.result first xs next c.zeros_length-lead.ensures.length;
      small = let short = c.zeros_length-lead.ensures.small in omega arith;
    }

pub columns-preserved : goal.columns-preserved
columns-preserved c =
    let word = c.args.word in
    let wide = c.args.wide in
    let xs = word_columns wide word in
    let place = c.columns.place in
    let gap = c.next_column-gap.result.0 in
    let long = length-word_columns wide word in
    let inv = c.columns.invariant in
    let next = next_column word wide c.requires.beyond c.columns.rest place gap inv.rest c.next_column-gap.ensures.live c.next_column-gap.ensures.zeros in
    let inside = next.inside in
    let run = c.zeros_length.result in
    let n = c.zeros_length-lead.result + c.columns.inner in
    let all : c.zeros_length-lead.result + (c.columns.inner + (run + 1)) ≡ n + (run + 1) = omega arith in
    record {
      rest = rest_more word c.columns.rest c.next_column-gap.result.1 place gap inv.rest c.next_column-gap.ensures.rest;
      some = omega arith;
      within = omega arith;
      forward = ap (λ k. k + length (columns_text 0 (drop (place + (gap + 1)) xs))) all ∙ next_forward n run place gap xs next c.zeros_length.ensures.length inv.forward;
      backward = next_backward c.columns.inner run place gap xs next inv.some c.zeros_length.ensures.length inv.backward;
      small = let short = c.zeros_length.ensures.small in omega arith;
    }

pub columns-smaller : goal.columns-smaller
columns-smaller c =
    let word = c.args.word in
    let wide = c.args.wide in
    let long = length-word_columns wide word in
    let inside = (next_column word wide c.requires.beyond c.columns.rest c.columns.place c.next_column-gap.result.0 c.columns.invariant.rest c.next_column-gap.ensures.live c.next_column-gap.ensures.zeros).inside in
    omega arith

pub returns-clause-forward : goal.returns-clause-forward
returns-clause-forward c =
    let word = c.args.word in
    let wide = c.args.wide in
    let place = c.columns.place in
    let long = length-word_columns wide word in
    let inv = c.columns.invariant in
    done_forward _ place (word_columns wide word) (omega (arith, inv.within)) (λ i h. no_more word wide c.requires.beyond c.columns.rest place i inv.rest c.columns-test.false (omega arith)) inv.forward

pub returns-clause-backward : goal.returns-clause-backward
returns-clause-backward c =
    let word = c.args.word in
    let wide = c.args.wide in
    let place = c.columns.place in
    let long = length-word_columns wide word in
    let inv = c.columns.invariant in
    let at : wide - place ≡ length (word_columns wide word) - place = omega arith in
    done_backward c.columns.inner c.zeros_length-2.result place (word_columns wide word) inv.some (omega (arith, inv.within)) (λ i h. no_more word wide c.requires.beyond c.columns.rest place i inv.rest c.columns-test.false (omega arith))
    (c.zeros_length-2.ensures.length ∙ ap (λ k. length (zeros k)) at) inv.backward
