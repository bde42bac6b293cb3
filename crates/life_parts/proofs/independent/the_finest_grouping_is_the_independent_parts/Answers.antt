use Rattle.life_parts.proofs.IndependentLemmas.Finest.{same_but_order}
use Rattle.life_parts.proofs.independent.the_finest_grouping_is_the_independent_parts.Goals as goal

pub returns : goal.returns
returns c R b P Qs within are = same_but_order R b P within Qs are
