use Rattle.std.proofs.Common.{take}
use Rattle.census_reports.specs.Rows.{AreRowsOf}
use Rattle.census_reports.proofs.rows.rows_of.Given as goal

abbrev pub invariant-loop-index : goal.invariant-loop-index
invariant-loop-index l = AreRowsOf l.rows (take l.index l.texts)
