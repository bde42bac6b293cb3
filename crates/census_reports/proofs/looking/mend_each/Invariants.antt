use Rattle.std.proofs.Common.{take}
use Rattle.census_reports.specs.Mending.{AreMended}
use Rattle.census_reports.proofs.looking.mend_each.Given as goal

abbrev pub invariant-loop-index : goal.invariant-loop-index
invariant-loop-index l = AreMended (take l.index l.texts) l.looked.texts.items l.looked.cuts.items
