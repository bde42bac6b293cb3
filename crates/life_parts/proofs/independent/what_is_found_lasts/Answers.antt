use Rattle.life_parts.proofs.IndependentLemmas.Finest.{found_later}
use Rattle.life_parts.proofs.independent.what_is_found_lasts.Goals as goal

pub returns : goal.returns
returns c R b n P within = found_later R b n P within
