use Rattle.std.proofs.Common.{◌≡◌, ◌+◌, ◌-◌, ◌*◌, ◌≤◌, length, true, false}
use Rattle.life_cells.specs.Wechsler.{columns_text}
use Rattle.life_cells.proofs.Columns.{joined}
use Rattle.life_codes.specs.Lengths.Grids.{columns_from}
use Rattle.life_codes.specs.Lengths.Words.{five_rows, word_columns}
use Rattle.life_codes.proofs.lengths.words.lengths_up.Given as goal

-- the strips so far are counted, and the marks between all strips
abbrev pub invariant-strips : goal.invariant-strips
invariant-strips l = record {
  forward : l.forward + (l.strip - 1) ≡ length (joined (λ k. columns_text 0 (columns_from false (word_columns l.wide (five_rows l.rows (l.high - 1 - 5 * k))))) l.strip) + (l.strips - 1);
  backward : l.backward + (l.strip - 1) ≡ length (joined (λ k. columns_text 0 (columns_from true (word_columns l.wide (five_rows l.rows (l.high - 1 - 5 * k))))) l.strip) + (l.strips - 1);
  small_forward : l.forward ≤ l.strips + l.strip * 64;
  small_backward : l.backward ≤ l.strips + l.strip * 64;
}
