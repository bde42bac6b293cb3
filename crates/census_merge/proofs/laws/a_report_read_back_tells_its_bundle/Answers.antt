use Rattle.census_format.specs.Reports.{said_under}
use Rattle.census_merge.proofs.ReadBack.{read-tells}
use Rattle.census_merge.proofs.Under.{said-sayable}
use Rattle.census_merge.proofs.laws.a_report_read_back_tells_its_bundle.Goals as goal

pub returns : goal.returns
returns c = λ b question text rows bundle report read. read-tells (said_under question b) text rows (said-sayable question b bundle) report read
