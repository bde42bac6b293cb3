use Rattle.life_growth.proofs.FatesLemmas.Fates.{ash_right, does_not_grow, grows_right, no_ash}
use Rattle.life_growth.proofs.fates.fates_are_right.Goals as goal

pub returns : goal.returns
returns c = record {
  ash = ash_right;
  grows = λ R b G S Es. grows_right R b G Es S;
  no_ash = no_ash;
  no_growth = does_not_grow;
}
