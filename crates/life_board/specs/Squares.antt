-- The cells of a square at its place.
use Rattle.std.specs.Prelude.{◌≡◌, ◌↔◌, ℕ, ℤ, pos, negsuc, true, ◌≤ℤ◌, ◌<◌, ◌≤◌, ◌+◌, List, slice_index}
use Rattle.std.specs.Int.{bit_at}
use Rattle.life_model.specs.Cell.{Cell}
use Rattle.life_model.specs.Generation.{Generation, contains, from_list}
use Rattle.life_cells.specs.Limits.{IsWithin, age_limit, last_place}
use Rattle.life_plane.specs.declared.tile.Tile.{Tile}
use Rattle.life_plane.specs.Area.{Nine, tile_cell}
use Rattle.life_slots.specs.Cells.{block_cells}
use Rattle.life_slots.specs.Slots.{empty_tile}
use Rattle.life_slots.specs.Ends.{HasEnds, IsMember}
use Rattle.life_board.specs.Limits.{corner_limit}
use Rattle.life_board.specs.declared.small.Square.{Square}

-- the cells of the 64 rows of a tile whose first cell is at (left, top)
unfoldable pub shown : ℤ → ℤ → Tile → Generation
shown left top tile = from_list (block_cells left top tile.rows 64)

abbrev pub members_of : Square → Generation
members_of square = shown square.left square.top square.tile

-- a place whose coordinates are far from the limits of 32 bits
pub record IsFarFromEnds (left top : ℤ) : Type 0 where
  pub west : negsuc corner_limit ≤ℤ left
  pub east : left ≤ℤ pos corner_limit
  pub north : negsuc corner_limit ≤ℤ top
  pub south : top ≤ℤ pos corner_limit

-- no row outside a range has a live cell
pub record IsVoidOutside (rows : List ℕ) (first end : ℕ) : Type 0 where
  pub order : first ≤ end
  pub inside : end ≤ 64
  pub above : (k : ℕ) → k < first → slice_index rows k ≡ 0
  pub below : (k : ℕ) → end ≤ k → k < 64 → slice_index rows k ≡ 0

-- the bit of each column is set exactly if one of its cells is live
abbrev pub AreColumnsOf : ℕ → Tile → Type 0
AreColumnsOf columns tile = (x : ℕ) → x < 64 → (bit_at columns x ≡ 0) ↔ ((y : ℕ) → y < 64 → tile_cell tile x y ≡ 0)

-- the invariant of a square
pub record IsSquare (square : Square) : Type 0 where
  pub place : IsFarFromEnds square.left square.top
  pub young : square.age ≤ age_limit
  pub void : IsVoidOutside square.tile.rows square.first square.end
  pub columns : AreColumnsOf square.columns square.tile
  pub within : (c : Cell) → contains (members_of square) c ≡ true → IsWithin square.age c

-- a tile with empty ones around it
abbrev pub alone : Tile → Nine
alone tile = record {
  north_west = empty_tile;
  north = empty_tile;
  north_east = empty_tile;
  west = empty_tile;
  here = tile;
  east = empty_tile;
  south_west = empty_tile;
  south = empty_tile;
  south_east = empty_tile;
}

-- no cell in a first or a last column or row of a tile is live
pub record IsInner (tile : Tile) : Type 0 where
  pub west : (y : ℕ) → y < 64 → tile_cell tile 0 y ≡ 0
  pub east : (y : ℕ) → y < 64 → tile_cell tile 63 y ≡ 0
  pub north : (x : ℕ) → x < 64 → tile_cell tile x 0 ≡ 0
  pub south : (x : ℕ) → x < 64 → tile_cell tile x 63 ≡ 0

-- two numbers that are coordinates of cells
pub record IsRange (range : ℤ × ℤ) : Type 0 where
  pub low_from : negsuc last_place ≤ℤ range.0
  pub low_to : range.0 ≤ℤ pos last_place
  pub high_from : negsuc last_place ≤ℤ range.1
  pub high_to : range.1 ≤ℤ pos last_place

-- The number of live cells among the eight around a cell, in three rows of 192 cells one above the other. The cell is in the
-- middle row, in column x of the middle 64.
abbrev pub around_in : ℕ → ℕ → ℕ → ℕ → ℕ
around_in a b c x =
    bit_at a (x + 63) + bit_at a (x + 64) + bit_at a (x + 65)
    + bit_at b (x + 63) + bit_at b (x + 65)
    + bit_at c (x + 63) + bit_at c (x + 64) + bit_at c (x + 65)

-- the next generation of a square has no cell outside it
pub record StaysInSquare (square : Square) : Type 0 where
  pub above : 0 < square.first
  pub below : square.end ≤ 62
  pub inner : IsInner square.tile

-- no cell is in a set
abbrev pub HasNoMember : Generation → Type 0
HasNoMember G = (c : Cell) → IsMember G c → ⊥

-- the first and the last of the cells of a set
abbrev pub AreEnds : Generation → Cell × Cell → Type 0
AreEnds G ends = HasEnds (IsMember G) (record { first = ends.0; last = ends.1 })
