use Rattle.std.proofs.Common.{◌≡◌, ℕ, ◌<◌, get_or, length}
use Rattle.life_model.specs.Cell.{origin}
use Rattle.life_model.specs.Generation.{cells}
use Rattle.life_classes.specs.Forest.{root}
use Rattle.life_islands.specs.Reach.{IsWithinTwo}
use Rattle.life_islands.proofs.places.are_of_one.Given as goal

-- what is near those passed has their marks
abbrev pub invariant-loop-n : goal.invariant-loop-n
invariant-loop-n l = (n : ℕ) → n < l.n → (k : ℕ) → k < length (cells l.list) →
    IsWithinTwo (get_or (cells l.list) k origin) (get_or (cells l.list) n origin) →
    root l.sets.forest.items (get_or l.sets.labels.items k 0) ≡ root l.sets.forest.items (get_or l.sets.labels.items n 0)
