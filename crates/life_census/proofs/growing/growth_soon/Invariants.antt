use Rattle.std.proofs.Common.{◌-◌, ◌≤◌}
use Rattle.life_census.proofs.growing.growth_soon.Given as goal

abbrev pub invariant-films : goal.invariant-films
invariant-films g l = 1 ≤ l.length

abbrev pub decreases-films : goal.decreases-films
decreases-films g l = l.horizon - l.length
