use Rattle.life_objects.proofs.Dividing.{few_by_undivided}
use Rattle.life_objects.proofs.Staying.{undivided_by_few}
use Rattle.life_objects.proofs.parts_decide_what_is_undivided.Goals as goal

pub returns : goal.returns
returns c R b G Ps whole stay pairs = (
  few_by_undivided R b G Ps whole pairs,
  undivided_by_few R b G Ps whole stay pairs,
)
