use Rattle.life_growth.proofs.RelationsLemmas.Relations.{few_numbers, from_few}
use Rattle.life_growth.proofs.relations.relations_leave_few_numbers.Goals as goal

pub returns : goal.returns
returns c us ups downs d relation = (few_numbers us ups downs d relation, from_few us ups downs d relation)
