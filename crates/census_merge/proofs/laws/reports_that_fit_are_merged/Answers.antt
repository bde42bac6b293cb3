use Rattle.census_merge.specs.Joining.{all_said}
use Rattle.census_merge.proofs.ReadBack.{fitting-reports}
use Rattle.census_merge.proofs.Under.{all-sayable}
use Rattle.census_merge.proofs.laws.reports_that_fit_are_merged.Goals as goal

pub returns : goal.returns
returns c = λ asked reports rows bundles each read fit. fitting-reports (all_said asked) reports rows (all-sayable asked bundles) each read fit
