use Rattle.std.proofs.Common.{◌≡◌, ℕ, suc, ◌<◌, ◌≤◌, true}
use Rattle.std.specs.List.{sum}
use Rattle.life_islands.specs.Split.Rounds.{HaveWalked}
use Rattle.life_islands.proofs.split.rounds.joined_once.Given as goal

abbrev pub invariant-loop-n : goal.invariant-loop-n
invariant-loop-n l = record {
  walked : (k : ℕ) → l.n ≡ suc k → HaveWalked l.orbit.rule l.orbit.set k l.sets l.is_joined;
  no_more : sum l.sets.forest.items ≤ sum l.fn.forest.items;
  less : l.is_joined ≡ true → sum l.sets.forest.items < sum l.fn.forest.items;
}
