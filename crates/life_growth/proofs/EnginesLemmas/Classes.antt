-- The classes of a set, and what the tests say.
use Rattle.std.proofs.Common.{◌≡◌, ◌≢◌, ℕ, zero, suc, true, false, cond, List, [], ◌∷◌, length, Some, None, is_some, sym, refl, ap, ◌∙◌, true≢false, arith}
use Rattle.std.specs.List.{All}
use Rattle.std.proofs.lemmas.Bool.{eqb-true, eq-eqb, or_left}
use Rattle.std.proofs.lemmas.List.Elements.{All-cons, All-head, All-map, All-nil, All-tail}
use Rattle.life_model.specs.Cell.{Cell}
use Rattle.life_model.specs.Rule.{Rule}
use Rattle.life_model.specs.Generation.{Generation, cells, contains, empty, from_list}
use Rattle.life_model.specs.Evolution.{generation}
use Rattle.life_model.proofs.Generations.{contains-from_list}
use Rattle.life_model.proofs.Moves.{same_cell_itself}
use Rattle.life_objects.specs.Union.{union, union_of}
use Rattle.life_objects.proofs.Unions.{in_empty, union-empty}
use Rattle.life_objects.specs.Decided.Classes.{classes, classes_after_meeting, classes_with}
use Rattle.life_objects.specs.Decided.Decided.{ash_of}
use Rattle.life_objects.specs.Decided.Tests.{meet}
use Rattle.life_objects.proofs.DecidedLemmas.Deciding.{ash_if_found, found_if_ash}
use Rattle.life_objects.proofs.DecidedLemmas.Joining.{finest_apart, finest_together, finest_whole}
use Rattle.life_growth.specs.Engine.{FallsApart}
use Rattle.life_growth.specs.Unsplit.{AreClasses, IsUnsplit}
use Rattle.life_growth.proofs.Classes.{one_class_by_unsplit, some_in_union, unsplit_by_one_class}
use Rattle.life_growth.specs.Engines.Tests.{falls_apart, is_unsplit}

-- has a cell
abbrev IsSome : Generation → Type 0
IsSome P = P ≢ empty

one_cell_some : (c : Cell) → IsSome (from_list (c ∷ []))
one_cell_some c none =
    in_empty c (ap (λ H. contains H c) (sym none) ∙ contains-from_list (c ∷ []) c ∙ or_left _ _ (same_cell_itself c))

module _ (R : Rule) where
  some_with : (n : ℕ) (P : Generation) (Ps : List Generation) → IsSome P → All IsSome Ps →
      All IsSome (classes_with R n P Ps)
  unfolding classes_with
  some_with n P [] some all = All-cons IsSome P [] some (All-nil IsSome)
  some_with n P (Q ∷ Qs) some all =
      elim (meet (generation R P n) (generation R Q n))
      as (λ t. All IsSome (cond t (classes_with R n (union P Q) Qs) (Q ∷ classes_with R n P Qs))) [
        | true ↦ some_with n (union P Q) Qs (some_in_union R 0 P Q some) (All-tail IsSome Q Qs all)
        | false ↦ All-cons IsSome Q (classes_with R n P Qs) (All-head IsSome Q Qs all)
            (some_with n P Qs some (All-tail IsSome Q Qs all))
      ]

  some_after : (n : ℕ) (Ps : List Generation) → All IsSome Ps → All IsSome (classes_after_meeting R n Ps)
  unfolding classes_after_meeting
  some_after n [] all = All-nil IsSome
  some_after n (P ∷ Ps) all =
      some_with n P (classes_after_meeting R n Ps) (All-head IsSome P Ps all)
      (some_after n Ps (All-tail IsSome P Ps all))

  classes_some : (G : Generation) (n : ℕ) → All IsSome (classes R G n)
  unfolding classes
  classes_some G zero = All-map IsSome (λ c. from_list (c ∷ [])) (cells G) (λ k d h. one_cell_some _)
  classes_some G (suc n) = some_after n (classes R G n) (classes_some G n)

  module _ (b : ℕ) (G : Generation) where
    pub are_classes : AreClasses R b G (classes R G (suc b))
    are_classes = record {
      together = finest_together R b G;
      nonempty = classes_some G (suc b);
      whole = finest_whole R b G;
      apart = finest_apart R b G;
    }

    -- ---- tests

    pub falls_by_test : falls_apart R b G ≡ true → FallsApart R b G
    falls_by_test h =
        elim (ash_of R b (generation R G b)) as (λ o. ash_of R b (generation R G b) ≡ o → is_some o ≡ true → FallsApart R b G) [
          | Some parts ↦ λ e _. (parts, ash_if_found R b (generation R G b) parts e)
          | None ↦ λ _ k. absurd (true≢false (sym k))
        ] refl h

    pub test_by_falls : FallsApart R b G → falls_apart R b G ≡ true
    test_by_falls settles = ap is_some (found_if_ash R b (generation R G b) settles.0 settles.1)

    one_alone : (Ps : List Generation) → union_of Ps ≡ G → length Ps ≡ 1 → Ps ≡ G ∷ []
    one_alone [] made e = absurd (omega arith)
    one_alone (P ∷ []) made e = ap (λ Q. Q ∷ []) (sym (union-empty P) ∙ made)
    one_alone (P ∷ (Q ∷ Qs)) made e = absurd (omega arith)

    pub unsplit_by_test : is_unsplit R b G ≡ true → IsUnsplit R b G
    unsplit_by_test h =
        unsplit_by_one_class R b G (classes R G (suc b)) are_classes
        (one_alone (classes R G (suc b)) (finest_together R b G) (eqb-true (length (classes R G (suc b))) 1 h))

    pub test_by_unsplit : IsUnsplit R b G → is_unsplit R b G ≡ true
    test_by_unsplit unsplit =
        eq-eqb (length (classes R G (suc b))) 1 (ap length (one_class_by_unsplit R b G (classes R G (suc b)) are_classes unsplit))
