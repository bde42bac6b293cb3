use Rattle.std.proofs.Common.{◌≡◌, ◌+◌}
use Rattle.life_model.specs.Evolution.{generation}
use Rattle.life_classes.proofs.splitting.stepped.Given as goal

abbrev pub invariant-loop : goal.invariant-loop
invariant-loop g l = record {
  members : g.P.Plane.members l.plane ≡ generation l.rule (g.P.Plane.members l.fn.plane) l.counter;
  aged : g.P.Plane.steps_made l.plane ≡ g.P.Plane.steps_made l.fn.plane + l.counter;
}
