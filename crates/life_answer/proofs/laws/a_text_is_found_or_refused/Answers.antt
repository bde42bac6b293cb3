use Rattle.life_answer.proofs.Texts.{answer-found, answer-refused, answer-numbered}
use Rattle.life_answer.proofs.laws.a_text_is_found_or_refused.Goals as goal

pub returns-clause-found : goal.returns-clause-found
returns-clause-found c = λ q text pattern e. answer-found q text pattern e

pub returns-clause-refused : goal.returns-clause-refused
returns-clause-refused c = λ q text fault e. answer-refused q text fault e

pub returns-clause-numbered : goal.returns-clause-numbered
returns-clause-numbered c = λ q text number e. answer-numbered q text number e
