use Rattle.life_growth.proofs.FatesLemmas.Growths.{growth_right}
use Rattle.life_growth.proofs.FatesLemmas.Lasting.{found_later, found_wider, told_later}
use Rattle.life_model.specs.Evolution.{generation}
use Rattle.life_growth.proofs.fates.what_was_found_grows_on.Goals as goal

pub returns : goal.returns
returns c = record {
  bound = λ R b d G S Es. found_wider R b d G Es S;
  later = λ R b d n G S Es. found_later R b d n G Es S;
  same = λ R b d n G S T Es found e f.
      told_later R b d n G Es S found T (growth_right R b G Es S e) (growth_right R d (generation R G n) found T f);
}
