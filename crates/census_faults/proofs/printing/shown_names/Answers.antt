use Rattle.census_faults.proofs.Shown.{shows_name_bytes, shows_names}
use Rattle.census_faults.proofs.printing.shown_names.Goals as goal

pub returns-clause-bytes : goal.returns-clause-bytes
returns-clause-bytes c = shows_name_bytes

pub returns-clause-names : goal.returns-clause-names
returns-clause-names c = shows_names
