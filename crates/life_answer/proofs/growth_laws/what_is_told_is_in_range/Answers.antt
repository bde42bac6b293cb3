use Rattle.life_answer.proofs.Ranges.{answer_has_some, answer_in_range, lines_in_range, some_engines}
use Rattle.life_answer.proofs.growth_laws.what_is_told_is_in_range.Goals as goal

pub returns : goal.returns
returns c = record {
  told = λ near R b G told e. (some_engines R near b G told e, lines_in_range R near b G told e);
  answered = λ near limit R b horizon G told e. (
    answer_has_some near limit R G b horizon told e,
    answer_in_range near limit R G b horizon told e,
  );
}
