use Rattle.std.proofs.Common.{◌-◌, ◌≤◌}
use Rattle.life_find.proofs.rounds.found_early.Given as goal

abbrev pub invariant-rounds : goal.invariant-rounds
invariant-rounds g l = 1 ≤ l.reach

abbrev pub decreases-rounds : goal.decreases-rounds
decreases-rounds g l = l.bound - l.reach
