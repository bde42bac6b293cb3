-- The sets of orbits.
use Rattle.std.specs.Prelude.{◌≡◌, List, map}
use Rattle.life_model.specs.Generation.{Generation}
use Rattle.life_model.specs.Rule.{Rule}
use Rattle.life_orbit.specs.Course.{Course}

-- the sets of these courses
abbrev pub sets_of : List Course → List Generation
sets_of courses = map (λ o. o.set) courses

-- the set recurs by this rule
abbrev pub IsCourseBy : Rule → Course → Type 0
IsCourseBy R o = o.rule ≡ R
