use Rattle.life_answer.proofs.Codes.{codes_tell_objects}
use Rattle.life_answer.proofs.laws.codes_tell_objects.Goals as goal

pub returns : goal.returns
returns c = λ R G J b c r q s t. codes_tell_objects R G J b c r q s t
