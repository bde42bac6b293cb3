use Rattle.life_growth.proofs.FatesLemmas.Growths.{its_growth, none_found}
use Rattle.life_growth.proofs.fates.growths_are_found.Goals as goal

pub returns : goal.returns
returns c = record {
  growth = λ R b G S Es. its_growth R b G Es S;
  otherwise = none_found;
}
