use Rattle.life_parts.proofs.PartsLemmas.Finest.{parts_split_throughout}
use Rattle.life_parts.proofs.independent_parts_are_a_splitting.Goals as goal

pub returns : goal.returns
returns c R P Qs are = parts_split_throughout R P Qs are
