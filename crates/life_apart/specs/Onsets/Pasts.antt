-- Sets that recur, some generations ago.
use Rattle.std.specs.Prelude.{◌≡◌, ℕ, ◌+◌, ◌-◌, ◌*◌, List, [], ◌∷◌, map}
use Rattle.life_model.specs.Cell.{opposite}
use Rattle.life_model.specs.Evolution.{generation}
use Rattle.life_model.specs.Generation.{Generation, size}
use Rattle.life_model.specs.Rule.{Rule}
use Rattle.life_model.specs.Symmetry.{translate_of}
use Rattle.life_objects.specs.Drift.{multiple_of}
use Rattle.life_orbit.specs.Course.{Course}

-- the sets of these courses
abbrev pub sets_of : List Course → List Generation
sets_of courses = map (λ o. o.set) courses

-- the set recurs by this rule
abbrev pub IsCourseBy : Rule → Course → Type 0
IsCourseBy R o = o.rule ≡ R

-- a set that has always recurred, as it was n generations ago: the set n periods ago, and from there n * period - n
-- generations on
abbrev pub past_of : ℕ → Course → Generation
past_of n o = translate_of (generation o.rule o.set (n * o.period - n)) (opposite (multiple_of n o.displacement))

-- each of the sets, as it was then
abbrev pub pasts : ℕ → List Course → List Generation
pasts n courses = map (past_of n) courses

-- the number of cells of all sets, counted set by set
abbrev pub total : List Generation → ℕ
total [] = 0
total (P ∷ Ps) = size P + total Ps
