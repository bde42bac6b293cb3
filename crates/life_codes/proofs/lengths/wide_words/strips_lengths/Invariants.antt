use Rattle.std.proofs.Common.{◌≡◌, ◌+◌, ◌*◌, ◌≤◌, length, true, false}
use Rattle.life_cells.specs.Wechsler.{columns_text}
use Rattle.life_cells.proofs.Columns.{joined}
use Rattle.life_codes.specs.Lengths.Frames.{wide_of}
use Rattle.life_codes.specs.Lengths.Grids.{columns_from}
use Rattle.life_codes.specs.Lengths.WideWords.{wide_columns, words_in}
use Rattle.life_codes.proofs.lengths.wide_words.strips_lengths.Given as goal

-- the strips so far are counted
abbrev pub invariant-strips : goal.invariant-strips
invariant-strips l = record {
  forward : l.forward ≡ length (joined (λ k. columns_text 0 (columns_from false (wide_columns l.words (k * words_in (wide_of l.fn.frame)) (wide_of l.fn.frame)))) l.strip);
  backward : l.backward ≡ length (joined (λ k. columns_text 0 (columns_from true (wide_columns l.words (k * words_in (wide_of l.fn.frame)) (wide_of l.fn.frame)))) l.strip);
  small_forward : l.forward ≤ l.strip * (wide_of l.fn.frame + 1);
  small_backward : l.backward ≤ l.strip * (wide_of l.fn.frame + 1);
}
