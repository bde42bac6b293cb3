use Rattle.life_parts.proofs.IndependentLemmas.Finest.{bound_free}
use Rattle.life_parts.proofs.independent.the_bound_does_not_matter.Goals as goal

pub returns : goal.returns
returns x = bound_free
