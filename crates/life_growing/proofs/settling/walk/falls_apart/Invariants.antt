use Rattle.std.proofs.Common.{◌≡◌, ◌+◌}
use Rattle.life_model.specs.Evolution.{generation}
use Rattle.life_growing.proofs.settling.walk.falls_apart.Given as goal

abbrev pub invariant-loop : goal.invariant-loop
invariant-loop g l = record {
  members : g.P.Plane.members l.later ≡ generation l.rule l.cells l.counter;
  aged : g.P.Plane.steps_made l.later ≡ l.age + l.counter;
}
