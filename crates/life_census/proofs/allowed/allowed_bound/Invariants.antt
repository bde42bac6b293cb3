use Rattle.std.proofs.Common.{◌≡◌}
use Rattle.life_model.specs.Evolution.{generation}
use Rattle.life_census.proofs.SmallEnough.{AreFewBefore}
use Rattle.life_census.proofs.allowed.allowed_bound.Given as goal

-- the plane is this generation, and none before it has more cells than it may have
abbrev pub invariant-loop-n : goal.invariant-loop-n
invariant-loop-n g l = record {
  cells : g.P.Plane.members l.plane ≡ generation l.rule l.cells l.n;
  age : g.P.Plane.steps_made l.plane ≡ l.n;
  few : AreFewBefore l.rule l.cells l.most l.n;
}
