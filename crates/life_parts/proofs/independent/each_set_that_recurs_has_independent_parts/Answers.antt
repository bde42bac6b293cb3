use Rattle.life_parts.proofs.IndependentLemmas.Finest.{are_the_parts}
use Rattle.life_parts.proofs.independent.each_set_that_recurs_has_independent_parts.Goals as goal

pub returns : goal.returns
returns c R b P within = are_the_parts R b P within
