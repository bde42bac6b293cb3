use Rattle.std.proofs.Common.{◌≡◌, ℕ, ◌%◌, ◌-◌, ◌<◌, ◌≤◌}
use Rattle.life_things.specs.Tries.{ClearAfter}
use Rattle.life_things.proofs.tries.are_clear_in_turn.Given as goal

-- it is clear for each number of the turn before this one, which is one of the turn
abbrev pub invariant-loop-count : goal.invariant-loop-count
invariant-loop-count l = record {
  turn : l.count % l.turn.every ≡ l.turn.first;
  late : l.tries.from ≤ l.count;
  clear : (n : ℕ) → l.tries.from ≤ n → n < l.count → n % l.turn.every ≡ l.turn.first →
      ClearAfter l.one l.other l.tries n;
}

abbrev pub decreases-loop-count : goal.decreases-loop-count
decreases-loop-count l = l.tries.until - l.count
