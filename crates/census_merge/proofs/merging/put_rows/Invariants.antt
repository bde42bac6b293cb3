use Rattle.std.proofs.Common.{length}
use Rattle.watched.specs.Telling.{sheet}
use Rattle.census_merge.proofs.Steps.{Putting}
use Rattle.census_merge.proofs.merging.put_rows.Given as goal

abbrev pub invariant-loop-first : goal.invariant-loop-first
invariant-loop-first g l =
    Putting l.text l.fn.sums l.all l.rest (sheet l.fn.block l.fn.writer) (sheet l.block l.writer)

abbrev pub decreases-loop-first : goal.decreases-loop-first
decreases-loop-first g l = length l.rest
