use Rattle.std.proofs.Common.{◌≡◌, ◌-◌, ◌≤◌, None}
use Rattle.life_model.specs.Evolution.{generation}
use Rattle.life_model.specs.Generation.{Generation}
use Rattle.life_census.specs.OnTheWay.{IsOnTheWay}
use Rattle.life_census.proofs.walk.ends_late.Given as goal

-- the plane is on the way to the last end, and nothing was found so far
abbrev pub invariant-stretches : goal.invariant-stretches
invariant-stretches g l = record {
  way : (G : Generation) → g.P.Plane.members l.fn.plane ≡ generation l.rule G (g.P.Plane.steps_made l.fn.plane) →
      IsOnTheWay l.rule G None (g.P.Plane.members l.later) (g.P.Plane.steps_made l.later) l.trail;
  rule : l.met.rule ≡ l.rule;
  bound : l.met.bound ≡ l.late;
  aged : g.P.Plane.steps_made l.later ≡ l.end;
  within : l.end ≤ l.late;
}

abbrev pub decreases-stretches : goal.decreases-stretches
decreases-stretches g l = l.late - l.end
