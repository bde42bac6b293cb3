use Rattle.life_model.specs.Evolution.{generation}
use Rattle.life_objects.specs.Union.{generations}
use Rattle.life_objects.proofs.Ashes.{IsAsh-later, IsAsh-wider}
use Rattle.life_objects.proofs.OneList.{one_list}
use Rattle.life_objects.proofs.ash_lasts.Goals as goal

pub returns : goal.returns
returns c = record {
  later = λ R b n G parts ash. IsAsh-later R b G parts ash n;
  wider = λ R b d G parts ash le. IsAsh-wider R b G parts ash d le;
  same = λ R b d n G parts others ash too.
      one_list R b d (generation R G n) (generations R parts n) others (IsAsh-later R b G parts ash n) too;
}
