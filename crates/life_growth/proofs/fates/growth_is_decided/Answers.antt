use Rattle.life_growth.proofs.FatesLemmas.Growths.{growth_right, no_growth}
use Rattle.life_growth.proofs.fates.growth_is_decided.Goals as goal

pub returns : goal.returns
returns c = record {
  some = λ R b G S Es. growth_right R b G Es S;
  none = λ R b G S Es. no_growth R b G Es S;
}
