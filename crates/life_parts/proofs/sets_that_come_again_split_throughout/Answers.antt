use Rattle.life_parts.proofs.PartsLemmas.Cycles.{split_by_cycles}
use Rattle.life_parts.proofs.sets_that_come_again_split_throughout.Goals as goal

pub returns : goal.returns
returns c R P Qs split again = split_by_cycles R P Qs split again
