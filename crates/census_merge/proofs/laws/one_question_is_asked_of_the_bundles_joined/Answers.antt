use Rattle.census_merge.proofs.Under.{one-question}
use Rattle.census_merge.proofs.laws.one_question_is_asked_of_the_bundles_joined.Goals as goal

pub returns : goal.returns
returns c = one-question
