use Rattle.std.proofs.Common.{◌≡◌, ◌+◌}
use Rattle.life_model.specs.Evolution.{generation}
use Rattle.life_ash.specs.Allowed.{AreAllowedBefore}
use Rattle.life_ash.proofs.limit.first_past.Given as goal

abbrev pub invariant-loop-n : goal.invariant-loop-n
invariant-loop-n g l = record {
  members : g.P.Plane.members l.later ≡ generation l.rule (g.P.Plane.members l.fn.plane) l.n;
  aged : g.P.Plane.steps_made l.later ≡ g.P.Plane.steps_made l.fn.plane + l.n;
  before : AreAllowedBefore l.rule (g.P.Plane.members l.fn.plane) l.limit l.n;
}
