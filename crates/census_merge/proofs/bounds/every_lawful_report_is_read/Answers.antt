use Rattle.census_merge.proofs.BoundsLemmas.Readings.{all-read}
use Rattle.census_merge.proofs.bounds.every_lawful_report_is_read.Goals as goal

pub returns : goal.returns
returns c = λ b question text bundle answered report. all-read question answered b text bundle report
