use Rattle.life_parts.proofs.PartsLemmas.Lists.{part_is_one}
use Rattle.life_parts.proofs.a_part_is_one_by_itself.Goals as goal

pub returns : goal.returns
returns c R P Q Qs p d r are one = part_is_one R P Qs are p d r Q one
