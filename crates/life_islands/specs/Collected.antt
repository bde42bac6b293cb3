-- Cells in lists, by the roots of their places.
use Rattle.std.specs.Prelude.{ℕ, ◌==◌, List, [], ◌∷◌, filter, length, map}
use Rattle.std.specs.List.{range_with_len}
use Rattle.life_model.specs.Cell.{Cell}
use Rattle.life_model.specs.Generation.{Generation, from_list}
use Rattle.life_classes.specs.Forest.{root}
use Rattle.life_islands.specs.Labels.{label_of}

-- the cells of ds whose places among the cells cs have the root k
abbrev pub of_root : List Cell → List ℕ → ℕ → List Cell → List Cell
of_root cs forest k ds = filter (λ c. root forest (label_of cs (range_with_len 0 (length cs)) c) == k) ds

-- for each number k, the list of the cells whose places have the root k
abbrev pub by_roots : List Cell → List ℕ → List Cell → List (List Cell)
by_roots cs forest ds = map (λ k. of_root cs forest k ds) (range_with_len 0 (length cs))

-- the sets of the lists that have a cell
abbrev pub some_of : List (List Cell) → List Generation
some_of [] = []
some_of ([] ∷ lists) = some_of lists
some_of ((c ∷ cs) ∷ lists) = from_list (c ∷ cs) ∷ some_of lists
