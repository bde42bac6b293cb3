use Rattle.life_orbit.specs.Passing.{AreApartBetween}
use Rattle.life_orbit.proofs.orbit.Orbit.is_apart_for_ever_from.Given as goal

-- the sets have been apart since the watch began
abbrev pub invariant-loop-time : goal.invariant-loop-time
invariant-loop-time l = AreApartBetween l.self.rule l.initial.time l.time l.self.set l.other.set
