use Rattle.std.proofs.Common.{◌≤◌}
use Rattle.census_page.proofs.tally.count_among.Given as goal

abbrev pub invariant-loop-index : goal.invariant-loop-index
invariant-loop-index l = l.count ≤ l.index
