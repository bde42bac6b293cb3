use Rattle.life_growth.proofs.FatesLemmas.Fates.{never_both}
use Rattle.life_growth.proofs.fates.ash_never_grows.Goals as goal

pub returns : goal.returns
returns c R b d m n G S parts Es = never_both R b d m n G parts Es S
