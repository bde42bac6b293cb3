use Rattle.std.proofs.Common.{◌≡◌, ◌*◌, ◌^◌, ◌≤◌}
use Rattle.life_model.specs.Evolution.{generation}
use Rattle.life_model.specs.Generation.{Generation}
use Rattle.life_ash.specs.Allowed.{AreAllowedBefore}
use Rattle.life_ash.specs.Counted.{IsPast}
use Rattle.life_ash.proofs.past.count_on.Given as goal

-- the plane is as old as the walk has come, and is that generation of whatever it was a generation of at first; those before it
-- are counted
abbrev pub invariant-loop-age : goal.invariant-loop-age
invariant-loop-age g l = record {
  aged : g.P.Plane.steps_made l.plane ≡ l.age;
  later : g.P.Plane.steps_made l.initial.plane ≤ l.age;
  same : l.met ≡ l.initial.met;
  small : l.totals.total ≤ l.age * 2 ^ 64;
  past : (G : Generation) →
      IsPast l.initial.met.rule l.initial.met.bound G (g.P.Plane.steps_made l.initial.plane)
      (g.P.Plane.members l.initial.plane) l.initial.totals →
      IsPast l.initial.met.rule l.initial.met.bound G l.age (g.P.Plane.members l.plane) l.totals;
  members : (G : Generation) →
      g.P.Plane.members l.initial.plane ≡ generation l.initial.met.rule G (g.P.Plane.steps_made l.initial.plane) →
      g.P.Plane.members l.plane ≡ generation l.initial.met.rule G l.age;
  before : (G : Generation) →
      g.P.Plane.members l.initial.plane ≡ generation l.initial.met.rule G (g.P.Plane.steps_made l.initial.plane) →
      AreAllowedBefore l.initial.met.rule G l.limit (g.P.Plane.steps_made l.initial.plane) →
      AreAllowedBefore l.initial.met.rule G l.limit l.age;
}
