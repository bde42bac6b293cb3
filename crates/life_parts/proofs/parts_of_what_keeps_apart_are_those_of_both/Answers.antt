use Rattle.life_parts.proofs.PartsLemmas.Both.{parts_of_both}
use Rattle.life_parts.proofs.parts_of_what_keeps_apart_are_those_of_both.Goals as goal

pub returns : goal.returns
returns c = parts_of_both
