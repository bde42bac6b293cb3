use Rattle.life_parts.proofs.PartsLemmas.Lists.{one_list}
use Rattle.life_parts.proofs.a_set_has_one_list_of_independent_parts.Goals as goal

pub returns : goal.returns
returns c = one_list
