use Rattle.std.proofs.Common.{ℕ, ◌<◌}
use Rattle.life_islands.specs.Labels.{AreJoinedByTouch, HasMet}
use Rattle.life_islands.proofs.touching.join_before.Given as goal

abbrev pub invariant-loop-number : goal.invariant-loop-number
invariant-loop-number l = record {
  touched : AreJoinedByTouch l.list l.fn.all l.all l.joined;
  met : (number : ℕ) → number < l.number → HasMet l.list l.all l.n number;
}
