-- What a report that was cut is mended to.
use Rattle.std.proofs.Common.{◌≡◌, ℕ, ◌<◌, List, ◌++◌, length, length-append, take, drop, ap, ◌∙◌, sym, subst, arith, append_assoc}
use Rattle.census_format.specs.Lines.{Collection}
use Rattle.census_merge.specs.Kept.{kept_rows, report_of, whole_count}
use Rattle.census_merge.specs.Mended.{IsCutTo}
use Rattle.census_merge.specs.declared.mending.Cut.{Cut}
use Rattle.census_format.specs.Reports.{IsReportOf}
use Rattle.census_rows.specs.declared.row.Row.{Row}
use Rattle.census_rows.specs.Lines.{text_of}
use Rattle.census_merge.specs.Cuts.Closed.{closed_collections}
use Rattle.census_merge.proofs.CutsLemmas.Ending.{no-end}
use Rattle.census_merge.proofs.CutsLemmas.Kept.{kept-report}
use Rattle.census_merge.specs.Lawful.{AreSayable}

-- if no report is whole, only what is kept of the one that was cut stays
none-whole : (rows : List Row) → whole_count rows ≡ 0 → kept_rows rows ≡ report_of rows
none-whole rows none = ap (λ n. take n rows ++ report_of (drop n rows)) none

pub mended-report : (b : List Collection) (text more mended : List ℕ) (cut : Cut) → AreSayable b → IsReportOf b (text ++ more) → 0 < length more
    → (is : IsCutTo text mended cut) → IsReportOf (closed_collections is.rows 1 b) mended
mended-report b text more mended cut bundle report some is =
    let rest = is.rest ++ more in
    let whole : IsReportOf b (text_of is.rows ++ rest) =
    subst (IsReportOf b) (ap (λ w. w ++ more) is.front ∙ append_assoc (text_of is.rows) is.rest more) report in
    let sum = length-append is.rest more in
    let none = no-end b is.rows rest bundle is.lines (omega (arith, sum, some)) whole in
    subst (IsReportOf (closed_collections is.rows 1 b)) (sym (is.kept.whole ∙ ap text_of (none-whole is.rows none)))
    (kept-report b is.rows rest bundle is.lines whole none)
