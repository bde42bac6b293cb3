use Rattle.std.proofs.Common.{◌-◌}
use Rattle.life_model.specs.Evolution.{generation}
use Rattle.life_objects.specs.Union.{generations}
use Rattle.life_objects.proofs.Ashes.{IsAsh-until, IsAsh-bound}
use Rattle.life_objects.proofs.OneList.{one_list}
use Rattle.life_objects.proofs.what_has_fallen_apart_stays_so.Goals as goal

pub returns : goal.returns
returns c = record {
  sooner = λ R b g G parts le ash. IsAsh-until R b g b G parts le ash;
  bound = λ R b d G parts le ash. IsAsh-bound R b d G parts le ash;
  same = λ R b d G parts others le ash too.
      one_list R d d (generation R G d) (generations R parts (d - b)) others (IsAsh-bound R b d G parts le ash) too;
}
