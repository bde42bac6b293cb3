use Rattle.std.proofs.Common.{◌≡◌, ℕ, ◌<◌, ◌≤◌, get_or}
use Rattle.life_classes.specs.Forest.{root}
use Rattle.life_islands.proofs.places.row_has.Given as goal

-- those passed have the mark
abbrev pub invariant-loop-at : goal.invariant-loop-at
invariant-loop-at l = (k : ℕ) → k < l.at → l.start ≤ k → root l.sets.forest.items (get_or l.sets.labels.items k 0) ≡ l.mark
