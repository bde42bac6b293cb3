use Rattle.life_answer.proofs.Rising.{told_goes_on}
use Rattle.life_answer.proofs.growth_laws.what_is_told_goes_on.Goals as goal

pub returns : goal.returns
returns c near R b m n G S T U Es Fs Hs parts others code = told_goes_on near R b m code n G S T U Es Fs Hs parts others
