use Rattle.census_merge.specs.Joining.{all_said}
use Rattle.census_merge.proofs.ReadBack.{merged-report}
use Rattle.census_merge.proofs.Under.{all-sayable}
use Rattle.census_merge.proofs.laws.merged_reports_are_a_report.Goals as goal

pub returns : goal.returns
returns c = λ asked reports rows bundles each read. merged-report (all_said asked) reports rows (all-sayable asked bundles) each read
