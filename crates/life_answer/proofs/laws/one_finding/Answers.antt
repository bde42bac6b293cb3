use Rattle.std.proofs.Common.{ap}
use Rattle.life_answer.specs.Answers.{finding_with}
use Rattle.life_answer.proofs.Findings.{outcome-more, outcome-less}
use Rattle.life_answer.proofs.laws.one_finding.Goals as goal

pub returns-clause-more : goal.returns-clause-more
returns-clause-more c = λ R G b c r s h. ap (finding_with G) (outcome-more R G b c r s h)

pub returns-clause-less : goal.returns-clause-less
returns-clause-less c = λ R G b c r s h. ap (finding_with G) (outcome-less R G b c r s h)
