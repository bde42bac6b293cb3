-- What holds of each cell of a list, and of each member of a set.
use Rattle.std.proofs.Common.{◌≡◌, true, List, [], ◌∷◌, inl, inr, sym, refl, subst, ◌∙◌, true≢false}
use Rattle.std.specs.Prelude.{All}
use Rattle.std.specs.List.{list_any, AllByRecursion}
use Rattle.std.proofs.lemmas.Bool.{or_cases, or_left, or_right}
use Rattle.std.proofs.lemmas.List.Elements.{recursion_from_All}
use Rattle.life_model.specs.Cell.{Cell, same_cell}
use Rattle.life_model.specs.Generation.{Generation, contains, cells}
use Rattle.life_model.proofs.Cells.{same_cell-is}
use Rattle.life_model.proofs.Generations.{contains-cells}

module _ (P : Cell → Type 0) where
  pub holds_in : (cs : List Cell) → AllByRecursion P cs → (c : Cell) → list_any (same_cell c) cs ≡ true → P c
  holds_in [] all c e = absurd (true≢false (sym e))
  holds_in (d ∷ ds) all c e =
      elim (or_cases (same_cell c d) _ e) [
        | inl h ↦ subst P (sym ((same_cell-is c d).0 h)) all.0
        | inr h ↦ holds_in ds all.1 c h
      ]

  pub all_from : (cs : List Cell) → ((c : Cell) → list_any (same_cell c) cs ≡ true → P c) → AllByRecursion P cs
  all_from [] h = tt
  all_from (d ∷ ds) h =
      (h d (or_left _ _ ((same_cell-is d d).1 refl)), all_from ds (λ c e. h c (or_right _ _ e)))

  pub member_has : (G : Generation) → All P (cells G) → (c : Cell) → contains G c ≡ true → P c
  member_has G all c e = holds_in (cells G) (recursion_from_All P (cells G) all) c (sym (contains-cells G c) ∙ e)

  pub all_members : (G : Generation) → ((c : Cell) → contains G c ≡ true → P c) → AllByRecursion P (cells G)
  all_members G h = all_from (cells G) (λ c e. h c (contains-cells G c ∙ e))
