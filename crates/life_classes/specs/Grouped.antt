-- Cells that are grouped by the roots of their labels.
use Rattle.std.specs.Prelude.{ℕ, zero, suc, ◌==◌, cond, List, [], ◌∷◌, ◌++◌, length, map}
use Rattle.std.specs.List.{range_with_len}
use Rattle.std.specs.declared.vec.Vec.{Vec}
use Rattle.life_model.specs.Cell.{Cell}
use Rattle.life_classes.specs.declared.class.Class.{Class}
use Rattle.life_classes.specs.declared.labels.Labelled.{Labelled}
use Rattle.life_classes.specs.declared.tags.Tag.{Tag}
use Rattle.life_classes.specs.Labels.{cells_of_root, chosen, class_of_root}

-- the cells of each list
abbrev pub lists_of : {A : Type 0} → List (Vec Cell A) → List (List Cell)
lists_of lists = map (λ list. list.items) lists

-- for each number, the cells whose labels have it as their root
abbrev pub by_roots : List Cell → List Tag → List ℕ → List (List Cell)
by_roots cs ts f = map (chosen cs ts f) (range_with_len 0 (length f))

-- the classes of the first n numbers, without those that have no cell at first
abbrev pub kept_classes : Labelled → Labelled → List ℕ → ℕ → List Class
kept_classes a l f zero = []
kept_classes a l f (suc n) =
    kept_classes a l f n ++ cond (length (cells_of_root a f n) == 0) [] (class_of_root a l f n ∷ [])
