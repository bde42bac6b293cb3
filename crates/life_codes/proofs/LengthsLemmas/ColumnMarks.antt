-- Words whose bits mark the columns that are not 0, and the texts of the bits.
use Rattle.std.specs.Prelude.{ℕ, ◌+◌, ◌*◌, ◌^◌, ◌<◌, Bool, List, pos, ◌-ℤ◌, if◌then◌else◌}
use Rattle.std.specs.Int.{bit_at}
use Rattle.std.specs.List.{range_with_len, sum_by}
use Rattle.life_model.specs.Cell.{Cell}
use Rattle.life_cells.specs.Wechsler.{columns_text, strips_text}
use Rattle.life_codes.specs.Lengths.Grids.{columns_from}
use Rattle.life_codes.specs.Lengths.Words.{AreZeroTogether, is_at, word_columns}

-- column x of strip k as a number, as `column_value` gives it
abbrev pub cells_column : List Cell → ℕ → ℕ → ℕ
cells_column cells k x = sum_by (λ j. if is_at cells x (pos (5 * k + j)) then 2 ^ j else 0) (range_with_len 0 5)

-- Bit x of word k is set where column x of strip k is not 0.
abbrev pub HoldsMarks : (ℕ → ℕ) → ℕ → List Cell → Type 0
HoldsMarks words strips cells = (k x : ℕ) → k < strips → AreZeroTogether (bit_at (words k) x) (cells_column cells k x)

-- a cell of `high` rows, counted from the last row
abbrev pub upside_down : ℕ → Cell → Cell
upside_down high c = (c.0, pos high -ℤ pos 1 -ℤ c.1)

-- the text of `strips` strips, as it were if each column that is marked held 1
abbrev pub words_text : (ℕ → ℕ) → ℕ → ℕ → Bool → List ℕ
words_text words wide strips back = strips_text (λ k. columns_text 0 (columns_from back (word_columns wide (words k)))) strips
