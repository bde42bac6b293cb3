use Rattle.std.proofs.Common.{◌≡◌, ◌+◌}
use Rattle.life_model.specs.Evolution.{generation}
use Rattle.life_census.proofs.island.later_by.Given as goal

-- the plane is that many generations later
abbrev pub invariant-steps : goal.invariant-steps
invariant-steps g l = record {
  cells : g.P.Plane.members l.later ≡ generation l.rule (g.P.Plane.members l.plane) l.counter;
  age : g.P.Plane.steps_made l.later ≡ g.P.Plane.steps_made l.plane + l.counter;
}
