-- Strips of at most 64 columns as words of bits, and the lengths of the texts of a set.
use Rattle.std.specs.Prelude.{◌≡◌, ℕ, zero, suc, ◌+◌, ◌<◌, ◌≤◌, Bool, List, length, map, slice_index, nat_abs, ℤ, pos, T, ◌-ℤ◌, if◌then◌else◌}
use Rattle.std.specs.Int.{bit_at}
use Rattle.std.specs.Int.Bits.{bit_or}
use Rattle.std.specs.List.{list_any, range_with_len}
use Rattle.life_model.specs.Cell.{Cell, same_cell}
use Rattle.life_model.specs.Generation.{Generation, is_rising}
use Rattle.life_model.specs.Symmetry.{Orientation, FlipX, image_under}
use Rattle.life_cells.specs.Wechsler.{body}
use Rattle.life_codes.specs.declared.lengths.frame.Frame.{Frame}
use Rattle.life_codes.specs.declared.lengths.measure.Lengths.{Lengths}
use Rattle.life_codes.specs.Lengths.Frames.{frame_of, turned_frame}

-- either both are 0 or neither is
abbrev pub AreZeroTogether : ℕ → ℕ → Type 0
AreZeroTogether a b = (a ≡ 0 → b ≡ 0) × (b ≡ 0 → a ≡ 0)

-- true where one of the cells is in column x of row y
abbrev pub is_at : List Cell → ℕ → ℤ → Bool
is_at cells x y = list_any (same_cell (pos x, y)) cells

-- the number of rows above row 0
abbrev pub rows_above : ℕ
rows_above = 4

-- Bit x of a row is 1 where there is a cell, and 0 where there is none.
abbrev pub HoldsRows : List ℕ → List Cell → Type 0
HoldsRows rows cells = (y x : ℕ) → y < length rows → bit_at (slice_index rows y) x ≡ (if is_at cells x (pos y -ℤ pos rows_above) then 1 else 0)

-- No bit of a word is set beyond `wide` columns.
abbrev pub AreWithinColumns : List ℕ → ℕ → Type 0
AreWithinColumns words wide = (k x : ℕ) → k < length words → wide ≤ x → bit_at (slice_index words k) x ≡ 0

-- the bits of five rows, from row `first` on, taken together
abbrev pub five_rows : List ℕ → ℕ → ℕ
five_rows rows first = bit_or (bit_or (bit_or (bit_or (slice_index rows first) (slice_index rows (first + 1))) (slice_index rows (first + 2))) (slice_index rows (first + 3))) (slice_index rows (first + 4))

-- the bits of a word as `wide` columns
abbrev pub word_columns : ℕ → ℕ → List ℕ
word_columns wide word = map (bit_at word) (range_with_len 0 wide)

-- the number of columns of 0 right before the next column, by the value of this one and the number right before it
abbrev pub zeros_after : ℕ → ℕ → ℕ
zeros_after zero before = before + 1
zeros_after (suc v) before = 0

-- the number of columns of 0 right before a column
abbrev pub zeros_before : List ℕ → ℕ → ℕ
zeros_before columns zero = 0
zeros_before columns (suc i) = zeros_after (slice_index columns i) (zeros_before columns i)

-- `next` is 1 where no column of 0 is right before a column, `near` is 1 where fewer than four are, and otherwise
-- they are 0
pub record AreNearMarks (columns : List ℕ) (next near : ℕ → ℕ) : Type 0 where
  pub beside : (i : ℕ) → i < length columns → zeros_before columns i ≡ 0 → next i ≡ 1
  pub apart : (i : ℕ) → i < length columns → 0 < zeros_before columns i → next i ≡ 0
  pub close : (i : ℕ) → i < length columns → zeros_before columns i < 4 → near i ≡ 1
  pub far : (i : ℕ) → i < length columns → 4 ≤ zeros_before columns i → near i ≡ 0

-- It is at most 64 wide and at most 64 high.
pub record IsSmallFrame (f : Frame) : Type 0 where
  pub across : nat_abs (f.right -ℤ f.left) < 64
  pub down : nat_abs (f.bottom -ℤ f.top) < 64

-- the lengths of the text of a turned set and of that of its mirror image
pub record AreLengths (lengths : Lengths) (G : Generation) (m : Orientation) : Type 0 where
  pub forward : lengths.forward ≡ length (body (image_under G m))
  pub backward : lengths.backward ≡ length (body (image_under (image_under G m) FlipX))

-- some cells in order, and the frame of their images under the map
pub record IsFrameOf (f : Frame) (m : Orientation) (cells : List Cell) : Type 0 where
  pub some : 0 < length cells
  pub rising : T (is_rising cells)
  pub frame : f ≡ turned_frame m (frame_of cells)
