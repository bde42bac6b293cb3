use Rattle.census_merge.proofs.RunsLemmas.OneCollection.{one_report}
use Rattle.census_merge.proofs.runs.one_collection_has_one_report.Goals as goal

pub returns : goal.returns
returns c = one_report
