-- The places of tiles, and the cells in or next to the tile at a place.
use Rattle.std.specs.Prelude.{ℤ, pos, negsuc, ◌+ℤ◌, ◌-ℤ◌, ◌*ℤ◌, ◌≤ℤ◌}
use Rattle.std.specs.Ordering.{int_cmp, ordering_then}
use Rattle.std.specs.declared.cmp.Ordering.{Ordering}
use Rattle.life_slots.specs.Limits.{tile_limit}

-- the order of the places of tiles, a column and a row
abbrev pub place_cmp : ℤ × ℤ → ℤ × ℤ → Ordering
place_cmp a b = ordering_then (int_cmp a.0 b.0) (int_cmp a.1 b.1)

-- a place whose neighbours are far within the range of 32-bit numbers
pub record IsInside (place : ℤ × ℤ) : Type 0 where
  pub west : negsuc tile_limit ≤ℤ place.0
  pub east : place.0 ≤ℤ pos tile_limit
  pub north : negsuc tile_limit ≤ℤ place.1
  pub south : place.1 ≤ℤ pos tile_limit

-- The first of the columns of the tiles in a column, or of the rows of those in a row. The tiles are shifted by 26 to the north
-- west, so that a pattern of up to 38 cells a side that is read at (0, 0) is in one tile.
abbrev pub start_at : ℤ → ℤ
start_at tile = pos 64 *ℤ tile -ℤ pos 26

-- the x of a cell within one of the columns of the tiles in a column, or the y of one within one of the rows of those in a row
pub record IsBeside (z tile : ℤ) : Type 0 where
  pub from : (start_at tile -ℤ pos 1) ≤ℤ z
  pub to : z ≤ℤ (start_at tile +ℤ pos 64)
