use Rattle.std.proofs.Common.{ap}
use Rattle.life_answer.specs.Answers.{finding_with}
use Rattle.life_answer.proofs.Findings.{outcome-nowhere, nowhere_by_outcome}
use Rattle.life_answer.proofs.laws.an_unresolved_set_settles_nowhere.Goals as goal

pub returns-clause-found : goal.returns-clause-found
returns-clause-found c = λ R G b none. ap (finding_with G) (outcome-nowhere R G b none)

pub returns-clause-only : goal.returns-clause-only
returns-clause-only c = λ R G b g e s. nowhere_by_outcome R G b g e s
