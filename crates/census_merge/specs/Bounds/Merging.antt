-- Reports that are read back and made one.
use Rattle.std.specs.Prelude.{ℕ, List}
use Rattle.census_format.specs.Reports.{IsReportOf}
use Rattle.census_merge.specs.Merged.{merged_rows}
use Rattle.census_readback.specs.Reports.{ReadsAsReports}
use Rattle.census_rows.specs.Lines.{text_of}
use Rattle.census_rows.specs.declared.row.Row.{Row}
use Rattle.census_merge.specs.Joining.{Asked, all_said, joined, texts}

-- The texts, one after another, are read back, and the merged rows as written are the report of what is said of all the bundles,
-- each under its own question.
pub record AreMade (asked : List Asked) (reports : List (List ℕ)) : Type 0 where
  pub rows : List Row
  pub read : ReadsAsReports rows (texts reports)
  pub report : IsReportOf (joined (all_said asked)) (text_of (merged_rows rows))
