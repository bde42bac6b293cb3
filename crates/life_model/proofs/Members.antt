-- What holds of each cell of a list, and the members of a set in their list.
use Rattle.std.proofs.Common.{◌≡◌, true, true≢false, List, [], ◌∷◌, inl, inr, sym, subst, ◌∙◌}
use Rattle.std.specs.List.{All, AllByRecursion, list_any, Contains}
use Rattle.std.proofs.lemmas.Bool.{or_cases, or_left, or_right}
use Rattle.std.proofs.lemmas.List.Elements.{All-from_recursion, All-head, All-tail}
use Rattle.std.proofs.lemmas.Map.Views.{Contains-from_any, list_any-from_Contains}
use Rattle.std.proofs.lemmas.Cmp.{eq_by_cmp_equiv}
use Rattle.life_model.specs.Cell.{Cell, same_cell}
use Rattle.life_model.specs.Generation.{Generation, cells, contains}
use Rattle.life_model.proofs.Cells.{same_cell-is, cell_cmp_total}
use Rattle.life_model.proofs.Moves.{same_cell_itself}
use Rattle.life_model.proofs.Generations.{contains-cells}

pub of_member : (P : Cell → Type 0) (xs : List Cell) → All P xs → (c : Cell) → list_any (same_cell c) xs ≡ true → P c
of_member P [] all c h = absurd (true≢false (sym h))
of_member P (x ∷ xs) all c h =
    elim (or_cases (same_cell c x) _ h) [
      | inl same ↦ subst P (sym ((same_cell-is c x).0 same)) (All-head P x xs all)
      | inr later ↦ of_member P xs (All-tail P x xs all) c later
    ]

members_by_recursion : (P : Cell → Type 0) (xs : List Cell) → ((c : Cell) → list_any (same_cell c) xs ≡ true → P c) →
    AllByRecursion P xs
members_by_recursion P [] each = tt
members_by_recursion P (x ∷ xs) each =
    (each x (or_left _ _ (same_cell_itself x)), members_by_recursion P xs (λ c h. each c (or_right _ _ h)))

pub of_all_members : (P : Cell → Type 0) (xs : List Cell) → ((c : Cell) → list_any (same_cell c) xs ≡ true → P c) →
    All P xs
of_all_members P xs each = All-from_recursion P xs (members_by_recursion P xs each)

-- ---- the members of a set, as a list

pub in_cells : (G : Generation) (c : Cell) → contains G c ≡ true → Contains (cells G) c
in_cells G c h = Contains-from_any (λ x y e. (same_cell-is x y).0 e) c (cells G) (sym (contains-cells G c) ∙ h)

pub from_cells : (G : Generation) (c : Cell) → Contains (cells G) c → contains G c ≡ true
from_cells G c one = contains-cells G c ∙ list_any-from_Contains (eq_by_cmp_equiv cell_cmp_total) c (cells G) one
