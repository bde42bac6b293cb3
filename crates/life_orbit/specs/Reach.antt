-- The reach of a move.
use Rattle.std.specs.Prelude.{ℕ, neg_ℤ, pos, ◌≤ℤ◌}
use Rattle.life_model.specs.Cell.{Cell}

-- the move goes at most n in each direction
pub record IsReach (n : ℕ) (d : Cell) : Type 0 where
  pub left : neg_ℤ (pos n) ≤ℤ d.0
  pub right : d.0 ≤ℤ pos n
  pub above : neg_ℤ (pos n) ≤ℤ d.1
  pub below : d.1 ≤ℤ pos n
