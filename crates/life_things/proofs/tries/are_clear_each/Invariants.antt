use Rattle.std.proofs.Common.{ℕ, ◌<◌, ◌≤◌}
use Rattle.life_things.specs.Tries.{ClearAfter}
use Rattle.life_things.proofs.tries.are_clear_each.Given as goal

-- it is clear for each number before this one
abbrev pub invariant-loop-count : goal.invariant-loop-count
invariant-loop-count l = (n : ℕ) → l.initial.count ≤ n → n < l.count → ClearAfter l.one l.other l.tries n
