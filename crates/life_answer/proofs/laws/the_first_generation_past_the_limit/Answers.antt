use Rattle.life_answer.proofs.Limits.{first_past-is, none_past-is}
use Rattle.life_answer.proofs.laws.the_first_generation_past_the_limit.Goals as goal

pub returns-clause-some : goal.returns-clause-some
returns-clause-some c = λ R G most last n. first_past-is R G last most n

pub returns-clause-none : goal.returns-clause-none
returns-clause-none c = λ R G limit last. none_past-is R G last limit
