use Rattle.std.proofs.Common.{◌≡◌, ℕ, ◌<◌, get_or}
use Rattle.life_classes.specs.Forest.{root}
use Rattle.life_islands.proofs.places.is_one.Given as goal

-- those passed have the root of the first
abbrev pub invariant-loop-n : goal.invariant-loop-n
invariant-loop-n l =
    (k : ℕ) → k < l.n → root l.sets.forest.items (get_or l.sets.labels.items k 0) ≡ root l.sets.forest.items (get_or l.sets.labels.items 0 0)
