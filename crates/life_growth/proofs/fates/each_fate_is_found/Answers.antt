use Rattle.life_growth.proofs.FatesLemmas.Fates.{ash_found, grows_found, neither_found}
use Rattle.life_growth.proofs.fates.each_fate_is_found.Goals as goal

pub returns : goal.returns
returns c = record {
  ash = ash_found;
  grows = λ R b G S Es. grows_found R b G Es S;
  otherwise = neither_found;
}
