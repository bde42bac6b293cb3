use Rattle.std.proofs.Common.{◌≡◌}
use Rattle.life_model.specs.Evolution.{generation}
use Rattle.life_census.proofs.growing.plane_at.Given as goal

-- the plane is this generation
abbrev pub invariant-steps : goal.invariant-steps
invariant-steps g l = record {
  cells : g.P.Plane.members l.plane ≡ generation l.rule l.cells l.counter;
  age : g.P.Plane.steps_made l.plane ≡ l.counter;
}
