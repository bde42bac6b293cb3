use Rattle.life_answer.proofs.Told.{told_growth, told_nothing}
use Rattle.life_answer.proofs.growth_laws.what_is_told_is_right.Goals as goal

pub returns : goal.returns
returns c = record { grows = λ near R b G S Es. told_growth near R b G Es S; otherwise = told_nothing }
