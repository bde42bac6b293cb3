use Rattle.std.proofs.Common.{length}
use Rattle.census_readback.proofs.Walks.{Passed}
use Rattle.census_readback.proofs.lines.behind_rows.Given as goal

abbrev pub invariant-loop-first : goal.invariant-loop-first
invariant-loop-first l = Passed l.text l.rest

abbrev pub decreases-loop-first : goal.decreases-loop-first
decreases-loop-first l = length l.rest
