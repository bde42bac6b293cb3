-- The cells that squares show.
use Rattle.std.specs.Prelude.{◌≡◌, true, ℕ, zero, suc, ℤ, pos, ◌+ℤ◌, ◌<◌, List, [], ◌++◌, slice_index}
use Rattle.std.specs.List.{list_any}
use Rattle.life_model.specs.Cell.{Cell, same_cell}
use Rattle.life_slots.specs.Cells.{row_cells}
use Rattle.life_advance.specs.Leaps.Squares.{View, width, beyond}

-- the cells of the first n rows of 32 bits, whose first bit is at (left, top)
unfoldable pub rows_cells : ℤ → ℤ → List ℕ → ℕ → List Cell
rows_cells left top rows zero = []
rows_cells left top rows (suc n) = row_cells left (top +ℤ pos n) (slice_index rows n) 32 ++ rows_cells left top rows n

-- the cells that a square of a level at a place has
unfoldable pub cells_of : View → ℕ → ℕ → Cell → List Cell
cells_of v zero i p = rows_cells p.0 p.1 (v.leaf i).rows 32
cells_of v (suc n) i p =
    cells_of v n (v.square i).quarters.north_west p
    ++ (cells_of v n (v.square i).quarters.north_east (beyond p (width n) 0)
    ++ (cells_of v n (v.square i).quarters.south_west (beyond p 0 (width n))
    ++ cells_of v n (v.square i).quarters.south_east (beyond p (width n) (width n))))

-- a cell is in the square of a level at a place
pub record IsInside (n : ℕ) (p c : Cell) : Type 0 where
  pub x : ℕ
  pub y : ℕ
  pub wide : x < width n
  pub high : y < width n
  pub is : c ≡ beyond p x y

-- a cell is one of a list
abbrev pub IsListed : List Cell → Cell → Type 0
IsListed cells q = list_any (same_cell q) cells ≡ true
