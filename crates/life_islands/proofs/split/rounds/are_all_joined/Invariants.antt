use Rattle.std.proofs.Common.{◌≡◌, ℕ, ◌<◌}
use Rattle.life_classes.specs.Forest.{root}
use Rattle.life_islands.proofs.split.rounds.are_all_joined.Given as goal

-- those passed are joined with the first
abbrev pub invariant-loop-n : goal.invariant-loop-n
invariant-loop-n l = (k : ℕ) → k < l.n → root l.forest k ≡ root l.forest 0
