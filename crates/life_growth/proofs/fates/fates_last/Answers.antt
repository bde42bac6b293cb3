use Rattle.life_growth.proofs.FatesLemmas.Fates.{ash_lasts, growth_lasts}
use Rattle.life_growth.proofs.fates.fates_last.Goals as goal

pub returns : goal.returns
returns c = record {
  ash = λ R b d G parts le. ash_lasts R b d G le parts;
  grows = λ R b d G S Es le. growth_lasts R b d G le Es S;
}
