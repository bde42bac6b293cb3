use Rattle.life_growth.proofs.RelationsLemmas.Spans.{related}
use Rattle.life_growth.proofs.relations.four_steps_are_related.Goals as goal

pub returns : goal.returns
returns c = related
