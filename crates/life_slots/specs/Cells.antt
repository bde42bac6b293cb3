-- The cells of tiles at their places.
use Rattle.std.specs.Prelude.{◌≡◌, Bool, count_by, nat_lt, ℕ, zero, suc, ℤ, pos, ◌+◌, ◌+ℤ◌, ◌==◌, List, [], ◌∷◌, ◌++◌, length, slice_index, if◌then◌else◌}
use Rattle.std.specs.Int.{bit_at}
use Rattle.life_model.specs.Cell.{Cell}
use Rattle.life_model.specs.Generation.{Generation, contains}
use Rattle.life_plane.specs.declared.tile.Tile.{Tile}
use Rattle.life_plane.specs.Flags.{as_bit}
use Rattle.life_slots.specs.Places.{start_at}

-- the cells of the first n bits of a word, whose bit 0 is at (left, y)
unfoldable pub row_cells : ℤ → ℤ → ℕ → ℕ → List Cell
row_cells left y word zero = []
row_cells left y word (suc n) =
    if bit_at word n == 1 then (left +ℤ pos n, y) ∷ row_cells left y word n else row_cells left y word n

-- the cells of the first n rows of words, whose first bit is at (left, top)
unfoldable pub block_cells : ℤ → ℤ → List ℕ → ℕ → List Cell
block_cells left top rows zero = []
block_cells left top rows (suc n) = row_cells left (top +ℤ pos n) (slice_index rows n) 64 ++ block_cells left top rows n

-- the cells of tiles at their places
unfoldable pub tiles_cells : List (Cell × Tile) → List Cell
tiles_cells [] = []
tiles_cells (e ∷ es) = block_cells (start_at e.0.0) (start_at e.0.1) e.1.rows 64 ++ tiles_cells es

-- the number of live cells of a tile
abbrev pub tile_count : Tile → ℕ
tile_count tile = length (block_cells (pos 0) (pos 0) tile.rows 64)

-- true where some cell of a tile is live
abbrev pub has_cell : Tile → Bool
has_cell tile = nat_lt 0 (tile_count tile)

-- the number of tiles that have a live cell
abbrev pub live_tiles : List Tile → ℕ
live_tiles tiles = count_by has_cell tiles

-- the first of some rows, the number of these rows, and the number of their cells
pub record RowsCount : Type 0 where
  pub from : ℕ
  pub height : ℕ
  pub cells : ℕ

-- the number of cells that some rows add to those before
abbrev pub IsCountFrom : List ℕ → RowsCount → Type 0
IsCountFrom rows counted = (left top : ℤ) →
    length (block_cells left top rows counted.from) + counted.cells ≡ length (block_cells left top rows (counted.from + counted.height))

-- 1 for a live cell, 0 for a dead one
abbrev pub state_at : Generation → ℤ → ℤ → ℕ
state_at G x y = as_bit (contains G (x, y))
