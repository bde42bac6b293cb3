use Rattle.std.proofs.Common.{◌≡◌, ◌-◌, ◌≤◌}
use Rattle.life_census.specs.OnTheWay.{IsOnTheWay}
use Rattle.life_census.proofs.walk.seen.Given as goal

-- the plane is on the way to the next look, and nothing was seen so far
abbrev pub invariant-looks : goal.invariant-looks
invariant-looks g l = record {
  way : IsOnTheWay l.rule l.cells l.limit (g.P.Plane.members l.plane) (g.P.Plane.steps_made l.plane) l.trail;
  rule : l.met.rule ≡ l.rule;
  bound : l.met.bound ≡ l.bound;
  within : g.P.Plane.steps_made l.plane ≤ l.bound;
  before : g.P.Plane.steps_made l.plane ≤ l.next;
  some : 1 ≤ l.next;
}

abbrev pub decreases-looks : goal.decreases-looks
decreases-looks g l = l.bound - l.next
