use Rattle.std.proofs.Common.{◌≡◌, ◌+◌}
use Rattle.life_census.proofs.trend.rises_steadily.Given as goal

-- the later plane is `age` steps on
abbrev pub invariant-steps : goal.invariant-steps
invariant-steps g l = g.P.Plane.steps_made l.later ≡ g.P.Plane.steps_made l.plane + l.age
