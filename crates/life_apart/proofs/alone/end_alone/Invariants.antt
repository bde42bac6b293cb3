use Rattle.std.proofs.Common.{◌≡◌, ◌+◌, ◌≤◌}
use Rattle.life_model.specs.Evolution.{generation}
use Rattle.life_objects.specs.Apart.{AreApartBefore}
use Rattle.life_apart.specs.Alone.{others_of}
use Rattle.life_apart.proofs.alone.end_alone.Given as goal

-- no other cell has been near the set so far
abbrev pub invariant-loop-n : goal.invariant-loop-n
invariant-loop-n g l = record {
  all : g.P.Plane.members l.all ≡ generation l.rule (g.P.Plane.members l.fn.plane) l.n;
  alone : g.P.Plane.members l.alone ≡ generation l.rule l.set l.n;
  all_aged : g.P.Plane.steps_made l.all ≡ g.P.Plane.steps_made l.fn.plane + l.n;
  alone_aged : g.P.Plane.steps_made l.alone ≡ g.P.Plane.steps_made l.fn.plane + l.n;
  known : l.n ≤ l.sure;
  sure : AreApartBefore l.rule l.sure l.set (others_of (g.P.Plane.members l.fn.plane) l.set);
}
