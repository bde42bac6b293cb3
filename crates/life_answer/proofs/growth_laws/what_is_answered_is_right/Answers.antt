use Rattle.life_answer.proofs.Growing.{one_outcome, outcome_is_so, outcome_lasts, outcome_otherwise}
use Rattle.life_answer.proofs.growth_laws.what_is_answered_is_right.Goals as goal

pub returns : goal.returns
returns x = record {
  only = λ near limit R b horizon G. outcome_is_so near limit R G b horizon;
  otherwise = λ near limit R b horizon G. outcome_otherwise near limit R G b horizon;
  lasts = λ near limit R b c horizon further G. outcome_lasts near limit R G b c horizon further;
  one = λ near limit other R b c horizon further G. one_outcome near R G limit other b c horizon further;
}
