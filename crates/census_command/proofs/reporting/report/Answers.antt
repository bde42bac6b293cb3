use Rattle.census_command.proofs.Reports.{whole_front}
use Rattle.census_command.proofs.reporting.report.Goals as goal

pub returns-in-Err-clause-report : goal.returns-in-Err-clause-report
returns-in-Err-clause-report g c = whole_front _ _ _ _ c.in_ok-run_as_asked.ensures.report
