-- Strips of any number of columns as words of 64 bits, and the texts of the bits.
use Rattle.std.specs.Prelude.{◌≡◌, ℕ, ◌+◌, ◌*◌, ◌/◌, ◌%◌, ◌^◌, ◌-◌, ◌-ℤ◌, ◌<◌, ◌≤◌, Bool, List, length, map, nat_abs, slice_index, slice_set}
use Rattle.std.specs.Int.{bit_at}
use Rattle.std.specs.Int.Bits.{bit_or}
use Rattle.std.specs.List.{range_with_len}
use Rattle.life_model.specs.Cell.{Cell}
use Rattle.life_model.specs.Symmetry.{Orientation}
use Rattle.life_cells.specs.Dots.{weights}
use Rattle.life_cells.specs.Wechsler.{columns_text, strips_text}
use Rattle.life_codes.specs.declared.lengths.frame.Frame.{Frame}
use Rattle.life_codes.specs.declared.lengths.wide_marks.RowPlace.{RowPlace}
use Rattle.life_codes.specs.Lengths.Frames.{cell_in_frame, strips_of, turned_frame, wide_of}
use Rattle.life_codes.specs.Lengths.Grids.{columns_from}
use Rattle.life_codes.specs.Lengths.Words.{AreZeroTogether}

-- the number of words that `wide` columns take
abbrev pub words_in : ℕ → ℕ
words_in wide = (wide + 63) / 64

-- bit x of the words from `first` on
abbrev pub wide_bit : List ℕ → ℕ → ℕ → ℕ
wide_bit words first x = bit_at (slice_index words (first + x / 64)) (x % 64)

-- No bit of the words of a strip is set beyond its columns.
abbrev pub IsMarkedWithin : List ℕ → ℕ → ℕ → Type 0
IsMarkedWithin words first wide = (x : ℕ) → wide ≤ x → x < words_in wide * 64 → wide_bit words first x ≡ 0

-- Bit x of the words of strip k is set where the weight of the cells in its column x is not 0.
pub record HoldsWide (words : List ℕ) (wide strips : ℕ) (cells : List Cell) : Type 0 where
  pub each : (k x : ℕ) → k < strips → x < wide → AreZeroTogether (wide_bit words (k * words_in wide) x) (weights k cells x)
  pub beyond : (k : ℕ) → k < strips → IsMarkedWithin words (k * words_in wide) wide

-- the marks of the images of cells of the frame under the map
abbrev pub HoldsWideTurned : List ℕ → Orientation → Frame → List Cell → Type 0
HoldsWideTurned words m f cells = HoldsWide words (wide_of (turned_frame m f)) (strips_of (turned_frame m f)) (map (cell_in_frame m (turned_frame m f)) cells)

-- The words are those of the strips that the frame takes when it is turned.
abbrev pub IsRoomFor : List ℕ → Orientation → Frame → Type 0
IsRoomFor words m f = length words ≡ strips_of (turned_frame m f) * words_in (wide_of (turned_frame m f))

-- the words with bit x set, counted from word `first` on
abbrev pub with_bit : List ℕ → ℕ → ℕ → List ℕ
with_bit words first x = slice_set words (first + x / 64) (bit_or (slice_index words (first + x / 64)) (1 * 2 ^ (x % 64) % 2 ^ 64))

-- Its places are those of the words of its row's strips.
pub record IsPlaceOfRow (place : RowPlace) (f : Frame) : Type 0 where
  pub same : place.same ≡ place.row / 5 * words_in (wide_of f)
  pub flip : place.flip ≡ (nat_abs (f.bottom -ℤ f.top) - place.row) / 5 * words_in (wide_of f)

-- the bits of a strip as `wide` columns
abbrev pub wide_columns : List ℕ → ℕ → ℕ → List ℕ
wide_columns words first wide = map (wide_bit words first) (range_with_len 0 wide)

-- the text of `strips` strips, as it would be if each marked column were 1
abbrev pub wide_text : List ℕ → ℕ → ℕ → Bool → List ℕ
wide_text words wide strips back = strips_text (λ k. columns_text 0 (columns_from back (wide_columns words (k * words_in wide) wide))) strips
