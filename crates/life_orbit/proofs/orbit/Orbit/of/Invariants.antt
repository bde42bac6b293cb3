use Rattle.life_orbit.specs.Kept.{IsOrbitWalk}
use Rattle.life_orbit.proofs.orbit.Orbit.of.Given as goal

abbrev pub invariant-loop-taken : goal.invariant-loop-taken
invariant-loop-taken g l = IsOrbitWalk l.rule l.cells l.taken l.phases.items l.phase
