-- The cells of a tile that are next to another tile.
use Rattle.std.specs.Prelude.{◌≡◌, ℕ, ◌+◌, ◌*◌, ◌%◌, ◌/◌, ◌<◌, ◌≤◌, ◌↔◌}
use Rattle.std.specs.Int.{bit_at}
use Rattle.life_plane.specs.declared.tile.Tile.{Tile}
use Rattle.life_plane.specs.Area.{tile_cell}
use Rattle.life_slots.specs.declared.rim.Rim.{Rim}

-- the column or row, of 64, is the one next to the 64 before them (side 0), any (1), or the one next to the 64 after them (2)
pub record IsEdge (side z : ℕ) : Type 0 where
  pub first : side ≡ 0 → z ≡ 0
  pub last : side ≡ 2 → z ≡ 63

-- no bit of 64 is set at a side: the one next to the 64 before them, any, or the one next to the 64 after them
abbrev pub IsSideClear : ℕ → ℕ → Type 0
IsSideClear side bits = (x : ℕ) → x < 64 → IsEdge side x → bit_at bits x ≡ 0

-- column x and row y of a tile are at its edge in a direction
pub record IsAtEdge (m x y : ℕ) : Type 0 where
  pub column : IsEdge (m % 3) x
  pub row : IsEdge (m / 3) y

-- a direction from a tile, a band of the tile there, and the column and the row of a cell of this tile
pub record BandAndCell : Type 0 where
  pub direction : ℕ
  pub band : ℕ
  pub column : ℕ
  pub row : ℕ

-- A cell of a tile is in or next to a band of the tile in a direction. This tile is the middle one of three tiles, one above the
-- other, and the band has number 8 * (direction / 3) + band in these.
pub record IsNextToBand (at : BandAndCell) : Type 0 where
  pub column : IsEdge (at.direction % 3) at.column
  pub from : 8 * (8 * (at.direction / 3) + at.band) ≤ at.row + 65
  pub to : at.row + 56 ≤ 8 * (8 * (at.direction / 3) + at.band)

-- no cell of a tile at its edge in a direction is live
pub record IsStill (tile : Tile) (m : ℕ) : Type 0 where
  pub still : (x y : ℕ) → x < 64 → y < 64 → IsAtEdge m x y → tile_cell tile x y ≡ 0

-- a tile's first row, its last row, and the columns in which it has a live cell
pub record IsRimOf (rim : Rim) (tile : Tile) : Type 0 where
  pub first : (x : ℕ) → x < 64 → bit_at rim.first x ≡ tile_cell tile x 0
  pub last : (x : ℕ) → x < 64 → bit_at rim.last x ≡ tile_cell tile x 63
  pub columns : (x : ℕ) → x < 64 → (bit_at rim.columns x ≡ 0) ↔ ((y : ℕ) → y < 64 → tile_cell tile x y ≡ 0)
