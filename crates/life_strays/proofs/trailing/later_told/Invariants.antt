use Rattle.std.proofs.Common.{◌≡◌, ◌*◌, ◌+◌}
use Rattle.std.specs.List.{All}
use Rattle.life_model.specs.Evolution.{generation}
use Rattle.life_strays.specs.Strays.{IsTrail}
use Rattle.life_strays.proofs.trailing.later_told.Given as goal

abbrev pub invariant-loop-n : goal.invariant-loop-n
invariant-loop-n g l = record {
  members : g.P.Plane.members l.later ≡ generation l.rule (g.P.Plane.members l.start) l.n;
  aged : g.P.Plane.steps_made l.later + l.bound ≡ g.P.Plane.steps_made l.initial.later + l.n;
  trails : All (IsTrail l.rule (2 * l.bound) l.n (g.P.Plane.members l.start)) l.trails.items;
}
