-- Sets in normal form, and the cells that can be moved into one.
use Rattle.std.specs.Prelude.{◌≡◌, pos, ◌+ℤ◌, ◌≤ℤ◌}
use Rattle.life_model.specs.Cell.{Cell}
use Rattle.life_model.specs.Generation.{Generation}
use Rattle.life_model.specs.Symmetry.{normal}
use Rattle.life_cells.specs.Limits.{last_place}

-- the least x and the least y are 0, or there is no cell
abbrev pub IsNormal : Generation → Type 0
IsNormal G = normal G ≡ G

-- the cell is 0 to 16,777,215 places to the right of the corner, and 0 to 16,777,215 below it
pub record IsAhead (corner c : Cell) : Type 0 where
  pub left : corner.0 ≤ℤ c.0
  pub right : c.0 ≤ℤ (corner.0 +ℤ pos last_place)
  pub above : corner.1 ≤ℤ c.1
  pub below : c.1 ≤ℤ (corner.1 +ℤ pos last_place)
