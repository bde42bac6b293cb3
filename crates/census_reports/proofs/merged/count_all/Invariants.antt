use Rattle.census_reports.proofs.Merging.{CountedTexts}
use Rattle.census_reports.proofs.merged.count_all.Given as goal

abbrev pub invariant-loop-index : goal.invariant-loop-index
invariant-loop-index l = CountedTexts l.texts l.index l.counted
