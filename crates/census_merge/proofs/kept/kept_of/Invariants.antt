use Rattle.census_merge.proofs.Counting.{Gathers}
use Rattle.census_merge.proofs.kept.kept_of.Given as goal

abbrev pub invariant-loop-row : goal.invariant-loop-row
invariant-loop-row l = Gathers l.rows l.row-index l.kept.items
