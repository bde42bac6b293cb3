use Rattle.std.proofs.Common.{◌≤◌}
use Rattle.life_advance.proofs.effort.wait_of.Given as goal

abbrev pub invariant-doubled : goal.invariant-doubled
invariant-doubled l = 1 ≤ l.wait
