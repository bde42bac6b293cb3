-- The places of the cells along a way.
use Rattle.std.specs.Prelude.{ℕ, suc, ◌+◌, ◌<◌, ◌≤◌}
use Rattle.std.specs.List.{All}
use Rattle.life_model.specs.Generation.{cells}
use Rattle.life_cells.specs.Limits.{IsWithin}
use Rattle.life_growth.specs.Engine.{Way}

-- the cores, and the cells that leave, are within the reach of their ages, if the first core is of this age
pub record AreWithinAlong (age : ℕ) (way : Way) : Type 0 where
  pub cores : (n : ℕ) → n ≤ way.period → All (IsWithin (age + n)) (cells (way.core n))
  pub lefts : (n : ℕ) → n < way.period → All (IsWithin (age + suc n)) (cells (way.left n))
