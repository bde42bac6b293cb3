use Rattle.life_answer.proofs.Tales.{tale_right}
use Rattle.life_answer.proofs.growth_laws.tales_are_right.Goals as goal

pub returns : goal.returns
returns c near R b E way objects engine emits = tale_right R near b E way objects engine emits
