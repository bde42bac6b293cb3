use Rattle.watched.specs.Telling.{sheet}
use Rattle.census_reports.proofs.Merging.{PutTexts}
use Rattle.census_reports.proofs.merged.put_all.Given as goal

abbrev pub invariant-loop-index : goal.invariant-loop-index
invariant-loop-index g l = PutTexts l.texts l.index l.sums (sheet l.fn.block l.fn.output) (sheet l.block l.output)
