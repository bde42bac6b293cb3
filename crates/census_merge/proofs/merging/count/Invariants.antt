use Rattle.std.proofs.Common.{length}
use Rattle.census_merge.proofs.Steps.{Counting}
use Rattle.census_merge.proofs.merging.count.Given as goal

abbrev pub invariant-loop-end : goal.invariant-loop-end
invariant-loop-end l = Counting l.text l.fn.counted l.all l.rest

abbrev pub decreases-loop-end : goal.decreases-loop-end
decreases-loop-end l = length l.rest
