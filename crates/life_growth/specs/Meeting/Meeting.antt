-- A search that decides whether two things in space and time ever meet.
use Rattle.std.specs.Prelude.{ℕ, ℤ, pos, neg_ℤ, ◌+ℤ◌, ◌-ℤ◌, Bool, not, List, [], ◌∷◌, ◌++◌, map, flat_map}
use Rattle.std.specs.List.{list_all}
use Rattle.life_model.specs.Cell.{Cell, opposite}
use Rattle.life_model.specs.Generation.{cells}
use Rattle.life_growth.specs.Things.{Thing}
use Rattle.life_growth.specs.Meeting.Sums.{Step, is_sum}

-- a way as a step, and as a step back
abbrev pub step_of : ℕ × Cell → Step
step_of w = (pos w.0, w.1)

abbrev pub step_back : ℕ × Cell → Step
step_back w = (neg_ℤ (pos w.0), opposite w.1)

abbrev pub steps_between : Thing → Thing → List Step
steps_between A B = map step_of A.ways ++ map step_back B.ways

-- the offsets of a cell from one that is near it, in one direction and in both
abbrev pub near_by : List ℤ
near_by = neg_ℤ (pos 2) ∷ neg_ℤ (pos 1) ∷ pos 0 ∷ pos 1 ∷ pos 2 ∷ []

abbrev pub nearness : List Cell
nearness = flat_map (λ x. map (λ y. (x, y)) near_by) near_by

-- the step that brings cell c of A to the place that is o away from cell d of B
abbrev pub step_to : Thing → Thing → Cell → Cell → Cell → Step
step_to A B c d o = (pos B.time -ℤ pos A.time, ((d.0 +ℤ o.0) -ℤ c.0, (d.1 +ℤ o.1) -ℤ c.1))

-- true where no cell of A comes to a place near a cell of B, by the ways of A and back by those of B
unfoldable pub never_meet : Thing → Thing → Bool
never_meet A B =
    list_all (λ c.
    list_all (λ d. list_all (λ o. not (is_sum (steps_between A B) (step_to A B c d o))) nearness) (cells B.set))
    (cells A.set)

-- true where no thing of one list ever meets one of the other
unfoldable pub all_never_meet : List Thing → List Thing → Bool
all_never_meet As Bs = list_all (λ A. list_all (never_meet A) Bs) As
