-- The parts that are counted of what leaves an engine.
use Rattle.std.specs.Prelude.{List, flat_map}
use Rattle.life_orbit.specs.Course.{Course}
use Rattle.life_growing.specs.Settled.Settling.{Settling}

-- the parts that each becomes, one after the other
abbrev pub parts_of_each : List Settling → List Course
parts_of_each lefts = flat_map (λ left. left.parts) lefts
