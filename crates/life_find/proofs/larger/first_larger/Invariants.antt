use Rattle.std.proofs.Common.{◌≡◌}
use Rattle.life_model.specs.Evolution.{generation}
use Rattle.life_find.proofs.FirstLarger.{BeginsAt}
use Rattle.life_find.proofs.larger.first_larger.Given as goal

abbrev pub invariant-loop-n : goal.invariant-loop-n
invariant-loop-n g l = record {
  cells : g.P.Plane.members l.plane ≡ generation l.rule l.fn.cells l.n;
  age : g.P.Plane.steps_made l.plane ≡ l.n;
  begun : BeginsAt l.rule l.fn.cells l.most l.last l.n;
}
