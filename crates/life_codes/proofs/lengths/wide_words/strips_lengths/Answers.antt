use Rattle.std.proofs.Common.{◌≡◌, ℕ, ◌+◌, ◌*◌, length, true, false, ap, ◌∙◌, arith}
use Rattle.life_cells.specs.Wechsler.{columns_text}
use Rattle.life_cells.proofs.Columns.{joined, strips_text_is}
use Rattle.life_codes.specs.Lengths.Frames.{strips_of, wide_of}
use Rattle.life_codes.specs.Lengths.Grids.{columns_from}
use Rattle.life_codes.specs.Lengths.WideWords.{wide_columns, words_in}
use Rattle.life_codes.proofs.LengthsLemmas.Measured.{joined_more}
use Rattle.life_codes.proofs.LengthsLemmas.WideWorded.{few_bytes}
use Rattle.life_codes.proofs.lengths.wide_words.strips_lengths.Goals as goal

pub overflow_add-forward-in-strips : goal.overflow_add-forward-in-strips
overflow_add-forward-in-strips c =
    let is = c.width-wide.ensures in
    let all = few_bytes c.args.frame c.requires.bounded c.strips.strip c.strips.forward (c.strip_lengths-lengths.result.forward + c.mark_length-mark.result) (omega arith) c.strips.invariant.small_forward (omega arith) in
    omega arith

pub overflow_add-backward-in-strips : goal.overflow_add-backward-in-strips
overflow_add-backward-in-strips c =
    let is = c.width-wide.ensures in
    let all = few_bytes c.args.frame c.requires.bounded c.strips.strip c.strips.backward (c.strip_lengths-lengths.result.backward + c.mark_length-mark.result) (omega arith) c.strips.invariant.small_backward (omega arith) in
    omega arith

pub strips-preserved : goal.strips-preserved
strips-preserved c =
    let words = c.args.words.now in
    let wide = wide_of c.args.frame in
    let k = c.strips.strip in
    let lengths = c.strip_lengths-lengths.ensures in
    let is : c.width-wide.result ≡ wide = c.width-wide.ensures in
    let per : c.words_per_strip-per.result ≡ words_in wide = c.words_per_strip-per.ensures in
    let more : (k + 1) * (wide + 1) ≡ k * (wide + 1) + (wide + 1) = omega arith in
    record {
      forward = joined_more (λ i. columns_text 0 (columns_from false (wide_columns words (i * words_in wide) wide))) k _ _ _ c.strips.invariant.forward
          (lengths.forward ∙ (λ t. length (columns_text 0 (columns_from false (wide_columns words (k * per t) (is t)))))) c.mark_length-mark.ensures.length;
      backward = joined_more (λ i. columns_text 0 (columns_from true (wide_columns words (i * words_in wide) wide))) k _ _ _ c.strips.invariant.backward
          (lengths.backward ∙ (λ t. length (columns_text 0 (columns_from true (wide_columns words (k * per t) (is t)))))) c.mark_length-mark.ensures.length;
      small_forward = omega arith;
      small_backward = omega arith;
    }

pub returns-clause-forward : goal.returns-clause-forward
returns-clause-forward c =
    let f = c.args.frame in
    let text = λ (k : ℕ). columns_text 0 (columns_from false (wide_columns c.args.words.now (k * words_in (wide_of f)) (wide_of f))) in
    let last : c.strips.strip ≡ strips_of f = omega (arith, c.strips.auto.strip-end, c.strips-test.false) in
    c.strips.invariant.forward ∙ ap (λ n. length (joined text n)) last ∙ ap length (strips_text_is text (strips_of f) (omega arith))

pub returns-clause-backward : goal.returns-clause-backward
returns-clause-backward c =
    let f = c.args.frame in
    let text = λ (k : ℕ). columns_text 0 (columns_from true (wide_columns c.args.words.now (k * words_in (wide_of f)) (wide_of f))) in
    let last : c.strips.strip ≡ strips_of f = omega (arith, c.strips.auto.strip-end, c.strips-test.false) in
    c.strips.invariant.backward ∙ ap (λ n. length (joined text n)) last ∙ ap length (strips_text_is text (strips_of f) (omega arith))
