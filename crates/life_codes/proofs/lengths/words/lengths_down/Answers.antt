use Rattle.std.proofs.Common.{◌≡◌, ℕ, ◌+◌, ◌*◌, ◌<◌, ◌≤◌, length, map, true, false, subst, sym, ap, ◌∙◌, arith}
use Rattle.std.specs.Int.{bit_at}
use Rattle.life_cells.specs.Wechsler.{columns_text}
use Rattle.life_cells.proofs.Columns.{joined, strips_text_is}
use Rattle.life_codes.specs.Lengths.Frames.{cell_in_frame}
use Rattle.life_codes.specs.Lengths.Grids.{columns_from}
use Rattle.life_codes.specs.Lengths.Words.{AreWithinColumns, five_rows, word_columns}
use Rattle.life_codes.proofs.LengthsLemmas.ColumnMarks.{HoldsMarks, words_text}
use Rattle.life_codes.proofs.LengthsLemmas.Marked.{framed_from, lengths_of_marks}
use Rattle.life_codes.proofs.LengthsLemmas.Rows.{five_within, marks_down}
use Rattle.life_codes.proofs.LengthsLemmas.Worded.{joined_marks}
use Rattle.life_codes.proofs.lengths.words.lengths_down.Goals as goal

pub word_lengths-lengths-requires-clause-beyond : goal.word_lengths-lengths-requires-clause-beyond
word_lengths-lengths-requires-clause-beyond c = λ x h.
    let k = c.strips.strip in
    let wide = c.width-wide.ensures in
    let strips = c.strips-strips.ensures in
    let down = c.requires.small.down in
    let before : k < c.strips-strips.result = c.strips-test.true in
    ap (λ w. bit_at w x) c.columns_of-word.ensures ∙ five_within c.args.rows.now (4 + 5 * k) x c.width-wide.result (omega arith) (subst (λ n. AreWithinColumns c.args.rows.now n) (sym wide) c.requires.within) h

pub strips-preserved : goal.strips-preserved
strips-preserved c =
    let rows = c.args.rows.now in
    let wide = c.width-wide.result in
    let k = c.strips.strip in
    let lengths = c.word_lengths-lengths.ensures in
    let inv = c.strips.invariant in
    let word = c.columns_of-word.ensures in
    let forward = joined_marks (λ k. columns_text 0 (columns_from false (word_columns wide (five_rows rows (4 + 5 * k))))) k _ (lengths.forward ∙ ap (λ w. length (columns_text 0 (columns_from false (word_columns wide w)))) word) in
    let backward = joined_marks (λ k. columns_text 0 (columns_from true (word_columns wide (five_rows rows (4 + 5 * k))))) k _ (lengths.backward ∙ ap (λ w. length (columns_text 0 (columns_from true (word_columns wide w)))) word) in
    record {
      forward = omega (arith, inv.forward, forward);
      backward = omega (arith, inv.backward, backward);
      small_forward = omega (arith, inv.small_forward, lengths.small_forward);
      small_backward = omega (arith, inv.small_backward, lengths.small_backward);
    }

pub returns : goal.returns
returns c = record {
  lengths = λ m cells framed held.
      let f = c.args.frame in
      let rows = c.args.rows.now in
      let wide = c.width-wide.ensures in
      let strips = c.strips-strips.ensures in
      let down = c.requires.small.down in
      let some : 0 < c.strips-strips.result = omega arith in
      let last : c.strips.strip ≡ c.strips-strips.result = omega (arith, c.strips.auto.strip-end, c.strips-test.false) in
      let words = λ (k : ℕ). five_rows rows (4 + 5 * k) in
      let forward_text = λ (k : ℕ). columns_text 0 (columns_from false (word_columns c.width-wide.result (words k))) in
      let backward_text = λ (k : ℕ). columns_text 0 (columns_from true (word_columns c.width-wide.result (words k))) in
      let forward : c.strips.forward ≡ length (joined forward_text c.strips.strip) = omega (arith, c.strips.invariant.forward) in
      let backward : c.strips.backward ≡ length (joined backward_text c.strips.strip) = omega (arith, c.strips.invariant.backward) in
      let few : c.strips-strips.result ≤ 13 = omega arith in
      lengths_of_marks cells m f (record { forward = c.strips.forward; backward = c.strips.backward }) (λ k. five_rows rows (4 + 5 * k)) (framed_from cells m f framed)
      (subst (λ n. HoldsMarks (λ k. five_rows rows (4 + 5 * k)) n (map (cell_in_frame m f) cells)) strips (marks_down rows c.strips-strips.result (map (cell_in_frame m f) cells) c.requires.room few held))
      (forward ∙ ap (λ n. length (joined forward_text n)) last ∙ ap length (strips_text_is forward_text c.strips-strips.result some) ∙ (λ i. length (words_text words (wide i) (strips i) false)))
      (backward ∙ ap (λ n. length (joined backward_text n)) last ∙ ap length (strips_text_is backward_text c.strips-strips.result some) ∙ (λ i. length (words_text words (wide i) (strips i) true)));
}
