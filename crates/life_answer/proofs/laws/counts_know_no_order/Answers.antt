use Rattle.life_answer.proofs.Tallying.{counted_all, counted_permutation}
use Rattle.life_answer.proofs.laws.counts_know_no_order.Goals as goal

pub returns-clause-order : goal.returns-clause-order
returns-clause-order c codes others same = counted_permutation codes others same

pub returns-clause-all : goal.returns-clause-all
returns-clause-all c codes = counted_all codes
