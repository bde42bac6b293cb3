use Rattle.census_merge.proofs.Texts.{told-report}
use Rattle.census_merge.proofs.laws.rows_that_tell_are_a_report.Goals as goal

pub returns : goal.returns
returns c = told-report
