use Rattle.std.proofs.Common.{◌≡◌, ℕ, ◌+◌, ◌-◌, ◌*◌, ◌/◌, ◌^◌, ◌≤◌, ◌<◌, get_or, ap, ◌∙◌, arith}
use Rattle.std.specs.Int.{bit_at}
use Rattle.std.proofs.lemmas.Nat.{shr-shr}
use Rattle.std.proofs.lemmas.Nat.Bits.{bit_at-zero}
use Rattle.life_codes.specs.Lengths.WideWords.{wide_bit}
use Rattle.life_codes.proofs.LengthsLemmas.WideWorded.{after_column, all_backward, all_forward, bit_there, halved, in_strip, none_backward, ones_there, rest_at, run_within, seen_dark, seen_live, seen_nothing, seen_ones, seen_same}
use Rattle.life_codes.proofs.lengths.wide_words.strip_lengths.Goals as goal

pub words-init : goal.words-init
words-init c = seen_nothing c.args.words.now c.args.first c.args.wide

pub columns-init : goal.columns-init
columns-init c =
    let word = get_or c.args.words.now (c.args.first + c.words.index) 0 in
    record {
      seen = c.words.invariant;
      start = omega arith;
      end = omega arith;
      rest = (let whole : word ≡ word / 2 ^ 0 = omega arith in whole) ∙ ap (λ n. word / 2 ^ n) (let none : 0 ≡ 64 * c.words.index - 64 * c.words.index = omega arith in none);
    }

pub overflow_add-column : goal.overflow_add-column
overflow_add-column c =
    let inv = c.columns.invariant in
    let inside = in_strip c.args.words.now c.args.first c.words.index c.args.wide c.columns.rest c.columns.column c.next_column-zeros.result.0 (let fits = c.type_inv.words (c.args.first + c.words.index) in omega arith) inv.start inv.rest c.next_column-zeros.ensures.live (omega arith) c.requires.beyond in
    omega arith

pub next_gap-more-requires : goal.next_gap-more-requires
next_gap-more-requires c = halved c.columns.rest c.next_column-zeros.result.1 c.next_column-zeros.result.0 (omega arith) c.next_column-zeros.ensures.rest

pub overflow_add-forward : goal.overflow_add-forward
overflow_add-forward c =
    let inv = c.columns.invariant in
    let within = run_within c.args.words.now c.args.first c.words.index c.args.wide c.columns.rest c.columns.column c.next_column-zeros.result.0 c.next_column-zeros.result.1 c.next_gap-more.result.0 (let fits = c.type_inv.words (c.args.first + c.words.index) in omega arith) inv.start inv.rest c.next_column-zeros.ensures.live c.next_column-zeros.ensures.rest c.next_gap-more.ensures.ones (omega arith) c.requires.beyond in
    let inside = within.0 in
    let short = c.gap_lengths-run.ensures.small in
    let lesser = c.gap_lengths-run.ensures.lesser in
    let before = inv.seen.before in
    let small_forward = inv.seen.small_forward in
    let small_backward = inv.seen.small_backward in
    omega arith

pub overflow_add-forward-in-columns : goal.overflow_add-forward-in-columns
overflow_add-forward-in-columns c =
    let inv = c.columns.invariant in
    let within = run_within c.args.words.now c.args.first c.words.index c.args.wide c.columns.rest c.columns.column c.next_column-zeros.result.0 c.next_column-zeros.result.1 c.next_gap-more.result.0 (let fits = c.type_inv.words (c.args.first + c.words.index) in omega arith) inv.start inv.rest c.next_column-zeros.ensures.live c.next_column-zeros.ensures.rest c.next_gap-more.ensures.ones (omega arith) c.requires.beyond in
    let inside = within.0 in
    let short = c.gap_lengths-run.ensures.small in
    let lesser = c.gap_lengths-run.ensures.lesser in
    let before = inv.seen.before in
    let small_forward = inv.seen.small_forward in
    let small_backward = inv.seen.small_backward in
    omega arith

pub overflow_add-backward : goal.overflow_add-backward
overflow_add-backward c =
    let inv = c.columns.invariant in
    let within = run_within c.args.words.now c.args.first c.words.index c.args.wide c.columns.rest c.columns.column c.next_column-zeros.result.0 c.next_column-zeros.result.1 c.next_gap-more.result.0 (let fits = c.type_inv.words (c.args.first + c.words.index) in omega arith) inv.start inv.rest c.next_column-zeros.ensures.live c.next_column-zeros.ensures.rest c.next_gap-more.ensures.ones (omega arith) c.requires.beyond in
    let inside = within.0 in
    let short = c.gap_lengths-run.ensures.small in
    let lesser = c.gap_lengths-run.ensures.lesser in
    let before = inv.seen.before in
    let small_forward = inv.seen.small_forward in
    let small_backward = inv.seen.small_backward in
    omega arith

pub overflow_add-backward-in-columns : goal.overflow_add-backward-in-columns
overflow_add-backward-in-columns c =
    let inv = c.columns.invariant in
    let within = run_within c.args.words.now c.args.first c.words.index c.args.wide c.columns.rest c.columns.column c.next_column-zeros.result.0 c.next_column-zeros.result.1 c.next_gap-more.result.0 (let fits = c.type_inv.words (c.args.first + c.words.index) in omega arith) inv.start inv.rest c.next_column-zeros.ensures.live c.next_column-zeros.ensures.rest c.next_gap-more.ensures.ones (omega arith) c.requires.beyond in
    let inside = within.0 in
    let short = c.gap_lengths-run.ensures.small in
    let lesser = c.gap_lengths-run.ensures.lesser in
    let before = inv.seen.before in
    let small_forward = inv.seen.small_forward in
    let small_backward = inv.seen.small_backward in
    omega arith

pub overflow_add-column-in-columns-2 : goal.overflow_add-column-in-columns-2
overflow_add-column-in-columns-2 c =
    let inv = c.columns.invariant in
    let within = run_within c.args.words.now c.args.first c.words.index c.args.wide c.columns.rest c.columns.column c.next_column-zeros.result.0 c.next_column-zeros.result.1 c.next_gap-more.result.0 (let fits = c.type_inv.words (c.args.first + c.words.index) in omega arith) inv.start inv.rest c.next_column-zeros.ensures.live c.next_column-zeros.ensures.rest c.next_gap-more.ensures.ones (omega arith) c.requires.beyond in
    let inside = within.0 in
    let short = c.gap_lengths-run.ensures.small in
    let lesser = c.gap_lengths-run.ensures.lesser in
    let before = inv.seen.before in
    let small_forward = inv.seen.small_forward in
    let small_backward = inv.seen.small_backward in
    omega arith

pub overflow_add-forward-in-columns-2 : goal.overflow_add-forward-in-columns-2
overflow_add-forward-in-columns-2 c =
    let inv = c.columns.invariant in
    let within = run_within c.args.words.now c.args.first c.words.index c.args.wide c.columns.rest c.columns.column c.next_column-zeros.result.0 c.next_column-zeros.result.1 c.next_gap-more.result.0 (let fits = c.type_inv.words (c.args.first + c.words.index) in omega arith) inv.start inv.rest c.next_column-zeros.ensures.live c.next_column-zeros.ensures.rest c.next_gap-more.ensures.ones (omega arith) c.requires.beyond in
    let inside = within.0 in
    let short = c.gap_lengths-run.ensures.small in
    let lesser = c.gap_lengths-run.ensures.lesser in
    let before = inv.seen.before in
    let small_forward = inv.seen.small_forward in
    let small_backward = inv.seen.small_backward in
    omega arith

pub overflow_add-backward-in-columns-2 : goal.overflow_add-backward-in-columns-2
overflow_add-backward-in-columns-2 c =
    let inv = c.columns.invariant in
    let within = run_within c.args.words.now c.args.first c.words.index c.args.wide c.columns.rest c.columns.column c.next_column-zeros.result.0 c.next_column-zeros.result.1 c.next_gap-more.result.0 (let fits = c.type_inv.words (c.args.first + c.words.index) in omega arith) inv.start inv.rest c.next_column-zeros.ensures.live c.next_column-zeros.ensures.rest c.next_gap-more.ensures.ones (omega arith) c.requires.beyond in
    let inside = within.0 in
    let short = c.gap_lengths-run.ensures.small in
    let lesser = c.gap_lengths-run.ensures.lesser in
    let before = inv.seen.before in
    let small_forward = inv.seen.small_forward in
    let small_backward = inv.seen.small_backward in
    omega arith

pub overflow_add-column-in-columns-3 : goal.overflow_add-column-in-columns-3
overflow_add-column-in-columns-3 c =
    let inv = c.columns.invariant in
    let within = run_within c.args.words.now c.args.first c.words.index c.args.wide c.columns.rest c.columns.column c.next_column-zeros.result.0 c.next_column-zeros.result.1 c.next_gap-more.result.0 (let fits = c.type_inv.words (c.args.first + c.words.index) in omega arith) inv.start inv.rest c.next_column-zeros.ensures.live c.next_column-zeros.ensures.rest c.next_gap-more.ensures.ones (omega arith) c.requires.beyond in
    let inside = within.0 in
    let short = c.gap_lengths-run.ensures.small in
    let lesser = c.gap_lengths-run.ensures.lesser in
    let before = inv.seen.before in
    let small_forward = inv.seen.small_forward in
    let small_backward = inv.seen.small_backward in
    omega arith

pub columns-preserved : goal.columns-preserved
columns-preserved c =
    let words = c.args.words.now in
    let first = c.args.first in
    let wide = c.args.wide in
    let index = c.words.index in
    let place = c.columns.place in
    let column = c.columns.column in
    let rest = c.columns.rest in
    let inv = c.columns.invariant in
    let zeros = c.next_column-zeros.result.0 in
    let after = c.next_column-zeros.result.1 in
    let next = c.next_column-zeros.ensures in
    let run = c.gap_lengths-run.result in
    let is = c.gap_lengths-run.ensures in
    let more = c.next_gap-more.result.0 in
    let ones = c.next_gap-more.ensures.ones in
    let fits : get_or words (first + index) 0 < 2 ^ 64 = let f = c.type_inv.words (first + index) in omega arith in
    let inside = in_strip words first index wide rest column zeros fits inv.start inv.rest next.live (omega arith) c.requires.beyond in
    let there : (i : ℕ) → i ≤ zeros → wide_bit words first (column + i) ≡ bit_at rest i = bit_there words first index wide rest column zeros fits inv.start inv.rest next.live in
    let none : (i : ℕ) → i < zeros → wide_bit words first (column + i) ≡ 0 = λ i h. there i (omega arith) ∙ next.zeros i h in
    let live = there zeros (omega arith) ∙ next.live in
    let left = after_column words first index rest column zeros after inv.start inv.rest next.rest in
    let start : 64 * index ≤ column + (zeros + 1) = let s = inv.start in omega arith in
    let within = run_within words first index wide rest column zeros after more fits inv.start inv.rest next.live next.rest ones (omega arith) c.requires.beyond in
    let in_strip_too = within.0 in
    let in_word_too = within.1 in
    let on : column + (zeros + 1) - 64 * index + more ≡ column + (zeros + 1 + more) - 64 * index = omega arith in
    record {
      seen = seen_same words first wide (column + (zeros + 1) + more) (column + (zeros + 1 + more)) (c.columns.forward + (run.forward + 1) + more) (c.columns.forward + (run.forward + 1 + more)) (c.columns.backward + (run.backward + 1) + more) (c.columns.backward + (run.backward + 1 + more)) (omega arith) (omega arith) (omega arith)
          (seen_ones words first wide more (column + (zeros + 1)) (c.columns.forward + (run.forward + 1)) (c.columns.backward + (run.backward + 1)) (omega arith) in_strip_too
          (ones_there words first index wide after (column + (zeros + 1)) fits start left more ones)
          (seen_live words first wide place column zeros c.columns.forward c.columns.backward inv.seen inside none live run.forward run.backward is.forward is.small is.later is.first));
      start = omega arith;
      end = omega arith;
      rest = c.next_gap-more.ensures.rest ∙ ap (λ n. n / 2 ^ more) left ∙ shr-shr (get_or words (first + index) 0) (column + (zeros + 1) - 64 * index) more ∙ ap (λ n. get_or words (first + index) 0 / 2 ^ n) on;
    }

pub words-preserved : goal.words-preserved
words-preserved c =
    let words = c.args.words.now in
    let first = c.args.first in
    let index = c.words.index in
    let column = c.columns.column in
    let inv = c.columns.invariant in
    let start = inv.start in
    let end = inv.end in
    seen_dark words first c.args.wide c.columns.place column (64 * (index + 1)) c.columns.forward c.columns.backward (omega arith)
    (λ x h l.
    let at : x ≡ 64 * index + (column - 64 * index + (x - column)) = omega arith in
    ap (wide_bit words first) at ∙ rest_at words first index c.columns.rest (column - 64 * index) (x - column) inv.rest (omega arith)
    ∙ ap (λ n. bit_at n (x - column)) c.columns-test.false ∙ bit_at-zero (x - column))
    inv.seen

pub returns-then-place-gt0-clause-forward : goal.returns-then-place-gt0-clause-forward
returns-then-place-gt0-clause-forward c =
    all_forward c.args.words.now c.args.first c.args.wide c.words.place (64 * c.words.index) c.words.forward c.words.backward c.words.invariant (omega (arith, c.words.auto.index-end, c.words-test.false, c.requires.per))

pub returns-then-place-gt0-clause-backward : goal.returns-then-place-gt0-clause-backward
returns-then-place-gt0-clause-backward c =
    all_backward c.args.words.now c.args.first c.args.wide c.words.place (64 * c.words.index) c.words.forward c.words.backward c.words.invariant (omega (arith, c.words.auto.index-end, c.words-test.false, c.requires.per))
    c.zeros_length-backward.result c.if-place-gt0.true c.zeros_length-backward.ensures.length

pub returns-else-place-gt0-clause-forward : goal.returns-else-place-gt0-clause-forward
returns-else-place-gt0-clause-forward c =
    all_forward c.args.words.now c.args.first c.args.wide c.words.place (64 * c.words.index) c.words.forward c.words.backward c.words.invariant (omega (arith, c.words.auto.index-end, c.words-test.false, c.requires.per))

pub returns-else-place-gt0-clause-backward : goal.returns-else-place-gt0-clause-backward
returns-else-place-gt0-clause-backward c =
    none_backward c.args.words.now c.args.first c.args.wide c.words.place (64 * c.words.index) c.words.forward c.words.backward c.words.invariant (omega (arith, c.words.auto.index-end, c.words-test.false, c.requires.per))
    c.if-place-gt0.false
