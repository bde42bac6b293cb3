use Rattle.life_answer.proofs.Told.{growth_is_so, nothing_grows}
use Rattle.life_answer.proofs.growth_laws.nothing_else_is_told.Goals as goal

pub returns : goal.returns
returns c = record { grows = growth_is_so; no_growth = nothing_grows }
