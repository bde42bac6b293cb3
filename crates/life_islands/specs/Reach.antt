-- Cells of lists and the cells around them.
use Rattle.std.specs.Prelude.{◌≤ℤ◌, ◌+ℤ◌, ◌-ℤ◌, pos, negsuc}
use Rattle.life_model.specs.Cell.{Cell}

-- A cell of a list, or one up to four away from one.
pub record IsInReach (c : Cell) : Type 0 where
  pub left : negsuc 16777219 ≤ℤ c.0
  pub right : c.0 ≤ℤ pos 16777219
  pub above : negsuc 16777219 ≤ℤ c.1
  pub below : c.1 ≤ℤ pos 16777219

-- The cells are at most two from each other in both directions.
pub record IsWithinTwo (c d : Cell) : Type 0 where
  pub left : (d.0 -ℤ pos 2) ≤ℤ c.0
  pub right : c.0 ≤ℤ (d.0 +ℤ pos 2)
  pub above : (d.1 -ℤ pos 2) ≤ℤ c.1
  pub below : c.1 ≤ℤ (d.1 +ℤ pos 2)
