use Rattle.std.proofs.Common.{◌≡◌, ◌+◌}
use Rattle.std.specs.List.{All}
use Rattle.life_model.specs.Evolution.{generation}
use Rattle.life_strays.specs.Strays.{IsStray}
use Rattle.life_strays.proofs.straying.strays_of.Given as goal

abbrev pub invariant-loop-n : goal.invariant-loop-n
invariant-loop-n g l = record {
  members : g.P.Plane.members l.plane ≡ generation l.rule (g.P.Plane.members l.initial.plane) l.n;
  aged : g.P.Plane.steps_made l.plane ≡ g.P.Plane.steps_made l.initial.plane + l.n;
  strays : All (IsStray l.rule l.bound l.n (g.P.Plane.members l.initial.plane)) l.strays.items;
}
