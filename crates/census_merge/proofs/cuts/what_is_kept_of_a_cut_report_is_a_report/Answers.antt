use Rattle.std.proofs.Common.{sym, subst}
use Rattle.census_format.specs.Reports.{IsReportOf, said_under}
use Rattle.census_merge.specs.Kept.{report_of}
use Rattle.census_merge.proofs.CutsLemmas.Kept.{kept-report}
use Rattle.census_merge.proofs.Under.{said-closed, said-sayable}
use Rattle.census_rows.specs.Lines.{text_of}
use Rattle.census_merge.proofs.cuts.what_is_kept_of_a_cut_report_is_a_report.Goals as goal

pub returns : goal.returns
returns c = λ b question rows rest bundle each report none.
    subst (λ said. IsReportOf said (text_of (report_of rows))) (sym (said-closed question rows 1 b))
    (kept-report (said_under question b) rows rest (said-sayable question b bundle) each report none)
