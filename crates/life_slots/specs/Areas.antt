-- Areas of 64 by 64 cells, of which the outermost rows and columns may be wrong.
use Rattle.std.specs.Prelude.{◌≡◌, ℕ, pos, ◌+◌, ◌<◌, ◌≤◌}
use Rattle.life_model.specs.Cell.{Cell, plus}
use Rattle.life_model.specs.Generation.{Generation}
use Rattle.life_plane.specs.declared.tile.Tile.{Tile}
use Rattle.life_plane.specs.Area.{tile_cell}
use Rattle.life_slots.specs.Kernels.Rows.{state}

-- the tile has the cells of a set from a place on, except for `rim` rows and columns at each side
pub record ShowsWithin (rim : ℕ) (tile : Tile) (G : Generation) (place : Cell) : Type 0 where
  pub cell : (x y : ℕ) → rim ≤ x → x + rim < 64 → rim ≤ y → y + rim < 64 →
      tile_cell tile x y ≡ state G (plus place (pos x, pos y))
