use Rattle.std.proofs.Common.{refl}
use Rattle.life_model.specs.Rule.{born}
use Rattle.life_model.specs.Evolution.{lives}
use Rattle.life_model.proofs.Evolution.{contains-next}
use Rattle.life_model.proofs.next_by_members.Goals as goal

pub returns : goal.returns
unfolding born lives
returns c = record { next = contains-next; neighbours = λ R. refl }
