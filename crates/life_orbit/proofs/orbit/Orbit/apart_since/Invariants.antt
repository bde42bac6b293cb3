use Rattle.std.proofs.Common.{◌-◌}
use Rattle.life_model.specs.Generation.{Generation}
use Rattle.life_orbit.specs.Passing.{AreApartBetween}
use Rattle.life_orbit.specs.Past.{IsPast}
use Rattle.life_orbit.proofs.orbit.Orbit.apart_since.Given as goal

-- the sets were apart in the generations that have been looked at so far
abbrev pub invariant-loop-near : goal.invariant-loop-near
invariant-loop-near l =
    (P Q : Generation) → IsPast l.age l.self P → IsPast l.age l.other Q →
    AreApartBetween l.self.rule (l.age - l.near) (l.age - l.initial.near) P Q
