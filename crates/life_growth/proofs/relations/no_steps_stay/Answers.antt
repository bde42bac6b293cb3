use Rattle.std.proofs.Common.{[], sym}
use Rattle.life_growth.proofs.relations.no_steps_stay.Goals as goal

pub returns : goal.returns
returns c d = (λ sum. sym sum.1, λ e. ([], sym e))
