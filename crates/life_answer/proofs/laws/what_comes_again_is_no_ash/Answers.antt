use Rattle.life_answer.proofs.Texts.{answer-no_ash, answer-no_growth}
use Rattle.life_answer.proofs.laws.what_comes_again_is_no_ash.Goals as goal

pub returns : goal.returns
returns c = record { ash = answer-no_ash; growth = answer-no_growth }
