use Rattle.std.proofs.Common.{◌≡◌, ℕ, ◌<◌, get_or, length}
use Rattle.life_classes.proofs.split.roots.Given as goal

abbrev pub invariant-loop-n : goal.invariant-loop-n
invariant-loop-n l = record {
  long : length l.forest.items ≡ l.n;
  own : (k d : ℕ) → k < l.n → get_or l.forest.items k d ≡ k;
}
