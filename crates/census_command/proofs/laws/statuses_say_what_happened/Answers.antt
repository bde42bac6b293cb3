use Rattle.census_command.proofs.Statuses.{statuses_say}
use Rattle.census_command.proofs.laws.statuses_say_what_happened.Goals as goal

pub returns : goal.returns
returns c = statuses_say
