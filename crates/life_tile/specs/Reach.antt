-- Cells that are examined when sets are compared.
use Rattle.std.specs.Prelude.{◌≡◌, ℕ, ℤ, pos, negsuc, ◌≤ℤ◌, ◌+ℤ◌, ◌<◌}
use Rattle.std.specs.Int.{bit_at}
use Rattle.life_model.specs.Cell.{Cell, plus}
use Rattle.life_model.specs.Generation.{Generation}
use Rattle.life_plane.specs.declared.tile.Tile.{Tile}
use Rattle.life_plane.specs.Area.{tile_cell}
use Rattle.life_slots.specs.Ends.{IsMember}
use Rattle.life_slots.specs.Limits.{reach_limit}
use Rattle.life_slots.specs.Places.{start_at}

-- both coordinates are far within the range of 32 bits
pub record IsInReach (c : Cell) : Type 0 where
  pub west : negsuc reach_limit ≤ℤ c.0
  pub east : c.0 ≤ℤ pos reach_limit
  pub north : negsuc reach_limit ≤ℤ c.1
  pub south : c.1 ≤ℤ pos reach_limit

-- each set bit of the 64 bits of a word is a member; bit 0 is at `start`
pub record IsRowIn (G : Generation) (word : ℕ) (start : Cell) : Type 0 where
  pub each : (j : ℕ) → j < 64 → bit_at word j ≡ 1 → IsMember G (start.0 +ℤ pos j, start.1)

-- each live cell of a tile, whose first cell is at `corner`, is a member after the move d
pub record IsTileIn (G : Generation) (tile : Tile) (corner d : Cell) : Type 0 where
  pub each : (x y : ℕ) → x < 64 → y < 64 → tile_cell tile x y ≡ 1 → IsMember G (plus (corner.0 +ℤ pos x, corner.1 +ℤ pos y) d)

-- the first cell of the tile at a place
abbrev pub corner_at : ℤ × ℤ → Cell
corner_at place = (start_at place.0, start_at place.1)
