use Rattle.std.proofs.Common.{◌≡◌}
use Rattle.std.specs.List.{All}
use Rattle.life_model.specs.Evolution.{generation}
use Rattle.life_apart.specs.Onsets.Moments.{IsMomentOf}
use Rattle.tests_objects.proofs.onsets.onset_by.Given as goal

-- the plane is the generation of its age, and those on the trail are earlier ones
abbrev pub invariant-loop : goal.invariant-loop
invariant-loop g l = record {
  members : g.P.Plane.members l.plane ≡ generation l.rule l.cells l.counter;
  aged : g.P.Plane.steps_made l.plane ≡ l.counter;
  kept : All (IsMomentOf l.rule l.cells) l.trail;
}
