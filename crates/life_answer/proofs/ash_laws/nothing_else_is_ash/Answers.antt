use Rattle.life_answer.proofs.Ashes.{ash_is_so, none_census}
use Rattle.life_answer.proofs.ash_laws.nothing_else_is_ash.Goals as goal

pub returns : goal.returns
returns c = record { ash = λ near R b onset G. ash_is_so near R b G onset; no_ash = none_census }
