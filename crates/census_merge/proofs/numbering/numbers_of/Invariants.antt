use Rattle.census_merge.proofs.Counting.{Numbered}
use Rattle.census_merge.proofs.numbering.numbers_of.Given as goal

abbrev pub invariant-loop-index : goal.invariant-loop-index
invariant-loop-index l = Numbered l.rows l.index l.each.items l.count
