use Rattle.life_parts.proofs.PartsLemmas.Deciding.{have_both_tied}
use Rattle.life_parts.proofs.PartsLemmas.Evolving.{part_of}
use Rattle.life_parts.proofs.what_is_held_apart_splits_no_part.Goals as goal

pub returns : goal.returns
returns c R P Q Qs others p d x y r least together once some held home are one h k =
    have_both_tied R P others p d r least together once some held home x y ((part_of R P Qs are Q one).tied x y h k)
