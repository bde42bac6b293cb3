use Rattle.std.proofs.Common.{sym, subst}
use Rattle.census_format.specs.Reports.{IsReportOf, said_under}
use Rattle.census_merge.proofs.CutsLemmas.Mended.{mended-report}
use Rattle.census_merge.proofs.Under.{said-closed, said-sayable}
use Rattle.census_merge.proofs.cuts.a_cut_report_is_mended_to_a_report.Goals as goal

pub returns : goal.returns
returns c = λ b question text more mended cut bundle report some is.
    subst (λ said. IsReportOf said mended) (sym (said-closed question is.rows 1 b))
    (mended-report (said_under question b) text more mended cut (said-sayable question b bundle) report some is)
