use Rattle.census_format.specs.Reports.{said_under}
use Rattle.census_merge.proofs.Readable.{report-read}
use Rattle.census_merge.proofs.Under.{said-lawful, said-sayable}
use Rattle.census_merge.proofs.laws.a_lawful_report_in_range_is_read.Goals as goal

pub returns : goal.returns
returns c = λ b question text bundle range report. report-read (said_under question b) (said-sayable question b bundle) (said-lawful question b range) text report
