-- Sets that recur, some generations later.
use Rattle.std.specs.Prelude.{ℕ, ◌+◌, List, [], ◌∷◌}
use Rattle.life_model.specs.Evolution.{generation}
use Rattle.life_model.specs.Generation.{size}
use Rattle.life_orbit.specs.Course.{Course}

-- the number of cells that they have together then, counted set by set
abbrev pub total_later : ℕ → List Course → ℕ
total_later n [] = 0
total_later n (o ∷ os) = size (generation o.rule o.set n) + total_later n os
