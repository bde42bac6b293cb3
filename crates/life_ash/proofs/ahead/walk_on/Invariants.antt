use Rattle.std.proofs.Common.{◌≡◌, ◌≤◌}
use Rattle.std.specs.List.{All}
use Rattle.life_model.specs.Evolution.{generation}
use Rattle.life_model.specs.Generation.{Generation}
use Rattle.life_apart.specs.Onsets.Moments.{IsMomentOf}
use Rattle.life_ash.specs.Allowed.{AreAllowedBefore}
use Rattle.life_ash.proofs.ahead.walk_on.Given as goal

-- the plane is as old as the walk has come, and is that generation of whatever it was a generation of at first, as are
-- those on the trail
abbrev pub invariant-loop-age : goal.invariant-loop-age
invariant-loop-age g l = record {
  aged : g.P.Plane.steps_made l.plane ≡ l.age;
  later : g.P.Plane.steps_made l.initial.plane ≤ l.age;
  same : l.met ≡ l.initial.met;
  members : (G : Generation) →
      g.P.Plane.members l.initial.plane ≡ generation l.initial.met.rule G (g.P.Plane.steps_made l.initial.plane) →
      g.P.Plane.members l.plane ≡ generation l.initial.met.rule G l.age;
  trail : (G : Generation) →
      g.P.Plane.members l.initial.plane ≡ generation l.initial.met.rule G (g.P.Plane.steps_made l.initial.plane) →
      All (IsMomentOf l.initial.met.rule G) l.initial.trail → All (IsMomentOf l.initial.met.rule G) l.trail;
  before : (G : Generation) →
      g.P.Plane.members l.initial.plane ≡ generation l.initial.met.rule G (g.P.Plane.steps_made l.initial.plane) →
      AreAllowedBefore l.initial.met.rule G l.limit (g.P.Plane.steps_made l.initial.plane) →
      AreAllowedBefore l.initial.met.rule G l.limit l.age;
  known : (G : Generation) →
      g.P.Plane.members l.initial.plane ≡ generation l.initial.met.rule G (g.P.Plane.steps_made l.initial.plane) →
      AreAllowedBefore l.initial.met.rule G l.limit (g.P.Plane.steps_made l.initial.plane) →
      AreAllowedBefore l.initial.met.rule G l.limit l.known;
}
