use Rattle.std.proofs.Common.{◌≡◌, ◌+◌}
use Rattle.life_model.specs.Evolution.{generation}
use Rattle.census_identify.proofs.blocks.whole.advance.Given as goal

abbrev pub invariant-loop : goal.invariant-loop
invariant-loop g l = record {
  cells : g.P.Plane.members l.plane ≡ generation l.rule (g.P.Plane.members l.fn.plane) l.counter;
  age : g.P.Plane.steps_made l.plane ≡ g.P.Plane.steps_made l.fn.plane + l.counter;
}
