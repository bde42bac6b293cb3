-- The phases of a set that recurs lie where their texts can be made.
use Rattle.std.proofs.Common.{ℕ, ◌+◌, ◌≤◌, arith}
use Rattle.std.specs.List.{All}
use Rattle.life_model.specs.Box.{width, height}
use Rattle.life_model.specs.Evolution.{generation}
use Rattle.life_model.specs.Generation.{Generation, cells}
use Rattle.life_model.specs.Rule.{Rule}
use Rattle.life_objects.specs.Limits.{objects_bound_limit}
use Rattle.life_cells.specs.Limits.{IsWithin, extent_limit}
use Rattle.life_cells.proofs.Places.{generation_within}
use Rattle.life_ash.specs.Parts.{ash_age_limit}
use Rattle.life_cells.proofs.Boxes.{width_at_age, height_at_age}

module _ (R : Rule) (G : Generation) (n : ℕ) (within : All (IsWithin ash_age_limit) (cells G)) (few : n ≤ objects_bound_limit) where
  pub phase_wide : width (generation R G n) ≤ extent_limit
  phase_wide =
      let wide = width_at_age (generation R G n) (ash_age_limit + n) (generation_within R ash_age_limit G within n) in
      omega arith

  pub phase_high : height (generation R G n) ≤ extent_limit
  phase_high =
      let high = height_at_age (generation R G n) (ash_age_limit + n) (generation_within R ash_age_limit G within n) in
      omega arith
