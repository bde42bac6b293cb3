use Rattle.std.proofs.Common.{ap}
use Rattle.life_answer.specs.Answers.{finding_with}
use Rattle.life_answer.proofs.Findings.{outcome-settled, settles_by_outcome}
use Rattle.life_answer.proofs.laws.a_settled_set_recurs.Goals as goal

pub returns-clause-found : goal.returns-clause-found
returns-clause-found c = λ R G b r s. ap (finding_with G) (outcome-settled R G b r s)

pub returns-clause-only : goal.returns-clause-only
returns-clause-only c = λ R G b onset period dx dy code e. settles_by_outcome R G b onset period dx dy code e
