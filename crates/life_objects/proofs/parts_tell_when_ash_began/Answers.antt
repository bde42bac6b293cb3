use Rattle.life_objects.proofs.Beginning.{ash_then}
use Rattle.life_objects.proofs.parts_tell_when_ash_began.Goals as goal

pub returns : goal.returns
returns c R b g t G parts sets le ash before = ash_then R b g t G sets parts le ash before
