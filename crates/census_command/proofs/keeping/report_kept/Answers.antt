use Rattle.census_command.proofs.Reports.{whole_front}
use Rattle.census_command.proofs.keeping.report_kept.Goals as goal

pub returns-in_default-clause-report : goal.returns-in_default-clause-report
returns-in_default-clause-report g c = whole_front _ _ _ _ c.in_ok-run_kept.ensures.report

pub returns-in-Err-clause-report : goal.returns-in-Err-clause-report
returns-in-Err-clause-report g c = whole_front _ _ _ _ c.in_ok-run_kept.ensures.report
