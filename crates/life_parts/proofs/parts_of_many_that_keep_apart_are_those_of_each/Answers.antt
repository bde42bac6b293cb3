use Rattle.life_parts.proofs.PartsLemmas.Ashes.{parts_of_whole_ash}
use Rattle.life_parts.proofs.PartsLemmas.Each.{parts_of_all}
use Rattle.life_parts.proofs.parts_of_many_that_keep_apart_are_those_of_each.Goals as goal

pub returns : goal.returns
returns c = record { sets = parts_of_all; ash = parts_of_whole_ash }
