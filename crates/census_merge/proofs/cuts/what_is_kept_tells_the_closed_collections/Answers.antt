use Rattle.std.proofs.Common.{sym, subst}
use Rattle.census_format.specs.Reports.{said_under}
use Rattle.census_merge.specs.Kept.{report_of}
use Rattle.census_merge.specs.Telling.{Tells}
use Rattle.census_merge.proofs.CutsLemmas.Kept.{kept-tells}
use Rattle.census_merge.proofs.Under.{said-closed, said-sayable}
use Rattle.census_merge.proofs.cuts.what_is_kept_tells_the_closed_collections.Goals as goal

pub returns : goal.returns
returns c = λ b question rows rest bundle each report none.
    subst (λ said. Tells said (report_of rows)) (sym (said-closed question rows 1 b))
    (kept-tells (said_under question b) rows rest (said-sayable question b bundle) each report none)
