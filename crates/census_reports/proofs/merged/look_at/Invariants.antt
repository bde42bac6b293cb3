use Rattle.std.proofs.Common.{List, take}
use Rattle.census_rows.specs.declared.row.Row.{Row}
use Rattle.census_reports.specs.Rows.{AreRowsOf}
use Rattle.census_reports.proofs.merged.look_at.Given as goal

abbrev pub invariant-loop-index : goal.invariant-loop-index
invariant-loop-index l = (rows : List Row) × AreRowsOf rows (take l.index l.texts)
