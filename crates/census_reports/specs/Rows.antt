-- The rows of texts that are reports.
use Rattle.std.specs.Prelude.{◌≡◌, ℕ, ◌+◌, List, ◌∷◌, ◌++◌, length}
use Rattle.std.specs.List.{AllZip}
use Rattle.census_rows.specs.declared.row.Row.{Row}
use Rattle.census_readback.specs.Reports.{IsFault, ReadsAsReports}
use Rattle.census_readback.specs.Shapes.{all_rows}
use Rattle.census_reports.specs.declared.error.ReportsError.{ReportsError}
use Rattle.census_reports.specs.declared.error.ReportsError.TheVariants.{Fault, Memory}

-- Each text is a report, or several, and these are the rows of all.
pub record AreRowsOf (rows : List Row) (texts : List (List ℕ)) : Type 0 where
  pub parts : List (List Row)
  pub whole : rows ≡ all_rows parts
  pub each : AllZip ReadsAsReports parts texts

-- Each text before the one of this number, from 1, is a report, or several. That one is not. Its first wrong line is this one,
-- from 1.
pub record HasReportFault (number line : ℕ) (texts : List (List ℕ)) : Type 0 where
  pub done : List (List ℕ)
  pub text : List ℕ
  pub left : List (List ℕ)
  pub texts_are : texts ≡ done ++ text ∷ left
  pub number_is : number ≡ length done + 1
  pub rows : List Row
  pub before : AreRowsOf rows done
  pub none : (own : List Row) → ReadsAsReports own text → ⊥
  pub first : IsFault text line

-- why texts have no rows
abbrev pub LackRows : ReportsError → List (List ℕ) → Type 0
LackRows (Fault number line kind) texts = HasReportFault number line texts
LackRows Memory texts = Unit {0}
LackRows error texts = ⊥
