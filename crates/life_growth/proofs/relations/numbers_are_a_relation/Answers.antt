use Rattle.life_growth.proofs.RelationsLemmas.Signed.{is_relation}
use Rattle.life_growth.proofs.relations.numbers_are_a_relation.Goals as goal

pub returns : goal.returns
returns c = is_relation
