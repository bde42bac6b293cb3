use Rattle.census_rows.proofs.StoreLemmas.Coded.{Pushing}
use Rattle.census_rows.proofs.store.numbers.push_number.Given as goal

abbrev pub invariant-loop-left : goal.invariant-loop-left
invariant-loop-left l = Pushing l.fn.bytes.items l.number l.bytes.items l.left

abbrev pub decreases-loop-left : goal.decreases-loop-left
decreases-loop-left l = l.left
