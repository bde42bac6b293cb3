use Rattle.std.proofs.Common.{ℕ, ◌<◌}
use Rattle.life_islands.specs.Labels.{AreJoinedByTouch, HasMet}
use Rattle.life_islands.proofs.touching.join_touching.Given as goal

abbrev pub invariant-loop-n : goal.invariant-loop-n
invariant-loop-n l = record {
  touched : AreJoinedByTouch l.list l.fn.all l.all l.joined;
  met : (n number : ℕ) → n < l.n → number < 4 → HasMet l.list l.all n number;
}
