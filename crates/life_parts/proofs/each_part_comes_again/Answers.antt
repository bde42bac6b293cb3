use Rattle.life_parts.proofs.PartsLemmas.Lists.{part_recurs}
use Rattle.life_parts.proofs.each_part_comes_again.Goals as goal

pub returns : goal.returns
returns c R P Q Qs p d r are one = part_recurs R P Qs are p d r Q one
