-- Independent parts pass the test through a period.
use Rattle.std.proofs.Common.{◌≡◌, ℕ, suc, ◌+◌, ◌*◌, ◌⊎◌, true, false, List, count_by, inl, inr, sym, ap, ◌∙◌, arith}
use Rattle.std.specs.Prelude.{nat_le}
use Rattle.std.specs.List.{Contains, list_any}
use Rattle.std.proofs.lemmas.Bool.{and_from, both_ways, cases_Bool, le-leb, leb-true}
use Rattle.life_model.specs.Cell.{Cell, opposite, plus}
use Rattle.life_model.specs.Rule.{Rule}
use Rattle.life_model.specs.Generation.{Generation, contains}
use Rattle.life_model.specs.Evolution.{generation, next}
use Rattle.life_model.specs.Recurrence.{RecursBy}
use Rattle.life_model.specs.Symmetry.{translate_of}
use Rattle.life_model.proofs.Cells.{plus-opposite_first}
use Rattle.life_objects.specs.Drift.{multiple_of}
use Rattle.life_objects.specs.Union.{generations}
use Rattle.life_objects.proofs.Recurring.{lives_for_ever}
use Rattle.life_objects.specs.Decided.Tests.{each_below, same_set}
use Rattle.life_objects.proofs.DecidedLemmas.Tests.{each_below_by, same_set-is}
use Rattle.life_parts.specs.Parts.Apart.{AreHeldApart, AreOfOneSet, HaveBoth, IsEachFair}
use Rattle.life_parts.specs.Parts.Groups.{IsAround, IsFair}
use Rattle.life_parts.specs.Parts.Parts.{AreIndependentParts}
use Rattle.life_parts.specs.Parts.Ties.{AreTied, IsIn, bearing, meeting, through, touching}
use Rattle.life_parts.proofs.PartsLemmas.Apart.{from_later, to_later}
use Rattle.life_parts.proofs.PartsLemmas.Classed.{AreClassesAt, fair_if_not_unfair}
use Rattle.life_parts.proofs.PartsLemmas.Ends.{contains-later}
use Rattle.life_parts.proofs.PartsLemmas.Evolving.{came_from, classes_at, disjoint_later, first_classes, part_of, together_later, whole_later}
use Rattle.life_parts.proofs.PartsLemmas.Lists.{part_recurs, some_cell}
use Rattle.life_parts.proofs.PartsLemmas.Recurring.{moved_set}
use Rattle.life_parts.specs.Independent.Groupings.{touches}
use Rattle.life_parts.specs.Independent.Held.{are_held_apart, are_held_apart_through, come_again}
use Rattle.life_objects.proofs.Found.{all_pass, any_passes}
use Rattle.life_parts.proofs.IndependentLemmas.Passing.{test_by_held}
use Rattle.life_parts.proofs.IndependentLemmas.Sets.{MakeUp}
use Rattle.life_parts.proofs.IndependentLemmas.Telling.{few_touch, one_set}

module _ (R : Rule) (P : Generation) (Qs : List Generation) (are : AreIndependentParts R P Qs) where
  abbrev first : AreClassesAt R P Qs 0
  first = first_classes R P Qs are

  module _ (n : ℕ) where
    abbrev G : Generation
    G = generation R P n

    abbrev Hs : List Generation
    Hs = generations R Qs n

    make : MakeUp G Hs
    make = record { together = sym (together_later R P Qs first n); once = disjoint_later R P Qs first are.once n }

    tied_both : (c e : Cell) → AreTied R P n c n e → HaveBoth Hs c e
    tied_both c e t H listed h =
        let Q = from_later R n Qs H listed in
        ap (λ B. contains B e) (sym Q.2)
        ∙ (classes_at R P Qs first n).whole Q.0 Q.1 c e (ap (λ B. contains B c) Q.2 ∙ h) t

    both_tied : (c e : Cell) → IsIn R P n c → HaveBoth Hs c e → AreTied R P n c n e
    both_tied c e h both =
        let Q = (classes_at R P Qs first n).cover c h in
        (classes_at R P Qs first n).tied Q.0 Q.1 c e Q.2 (both (generation R Q.0 n) (to_later R n Qs Q.0 Q.1) Q.2)

    -- what is tied to a cell of a part's next generation is of that generation
    next_of_part : (c x : Cell) → AreTied R P n c (suc n) x → (H : Generation) → Contains Hs H → contains H c ≡ true →
        contains (next R H) x ≡ true
    unfolding generation
    next_of_part c x t H listed h =
        let Q = from_later R n Qs H listed in
        let b = came_from R P Qs first Q.0 Q.1 n c (ap (λ B. contains B c) Q.2 ∙ h) in
        ap (λ B. contains (next R B) x) (sym Q.2)
        ∙ whole_later R P Qs first Q.0 Q.1 (suc n) b.0 x b.1 (through 0 n (suc n) b.0 c x b.2 t)

    module _ (x : Cell) (place : contains G x ≡ false) where
      -- where not all around is of one part, each grouping is fair
      each_fair : (AreOfOneSet G Hs x → ⊥) → IsEachFair R G Hs x
      each_fair many colour islands within =
          let tied : (c e : Cell) → IsAround G x c → IsAround G x e → colour c ≡ colour e → AreTied R P n c n e =
          λ c e at too same. both_tied c e at.live (within c e at too same) in
          let fair : IsFair R G colour x =
          fair_if_not_unfair R G colour x place (λ unfair.
          many (λ c e at too. tied_both c e (meeting n x colour place islands tied unfair c e at too))) in (
            fair,
            λ c at bearing_colour H listed h.
                next_of_part c x (bearing n x colour place islands tied fair c at bearing_colour) H listed h,
          )

      one_or_fair : AreOfOneSet G Hs x ⊎ IsEachFair R G Hs x
      one_or_fair =
          elim (cases_Bool (nat_le (count_by (touches x) Hs) 1)) [
            | inl few ↦ inl (one_set R G Hs make x (leb-true (count_by (touches x) Hs) 1 few))
            | inr many ↦ inr (each_fair (λ whole.
                both_ways (nat_le (count_by (touches x) Hs) 1) many
                (le-leb (count_by (touches x) Hs) 1 (few_touch R G Hs make x whole))))
          ]

    pub parts_held : AreHeldApart R G Hs
    parts_held = record {
      islands = λ c e h k near. tied_both c e (touching n c e h k near);
      places = one_or_fair;
    }

    parts_pass : are_held_apart R G Hs ≡ true
    parts_pass = test_by_held R G Hs make parts_held

  module _ (p : ℕ) (d : Cell) (r : RecursBy R P p d) where
    -- a part is a part again a period later, moved
    part_again : (A : Generation) → Contains Qs A → (Q : Generation) × Contains Qs Q × (generation R A p ≡ translate_of Q d)
    part_again A one =
        let again = part_recurs R P Qs are p d r A one in
        let lives = lives_for_ever R A (again.0 * p) (multiple_of again.0 d) again.3 (part_of R P Qs are A one).nonempty p in
        let x = some_cell (generation R A p) lives in
        let y = plus x.0 (opposite d) in
        let back : plus y d ≡ x.0 = plus-opposite_first x.0 d in
        let in_A : IsIn R A p (plus y d) = ap (contains (generation R A p)) back ∙ x.1 in
        let in_P : IsIn R P 0 y =
        sym (contains-later R P p d r 0 y)
        ∙ ap (λ n. contains (generation R P n) (plus y d)) (let e : 0 + p ≡ p = omega arith in e)
        ∙ (classes_at R P Qs first p).within A one (plus y d) in_A in
        let Q = first.cover y in_P in
        (Q.0, Q.1, moved_set R P Qs first p d r Q.0 A Q.1 one y Q.2 in_A)

    again_pass : come_again R p d Qs ≡ true
    unfolding come_again
    again_pass =
        all_pass (λ A. list_any (λ H. same_set (generation R A p) (translate_of H d)) Qs) Qs (λ A one.
        let Q = part_again A one in
        any_passes (λ H. same_set (generation R A p) (translate_of H d)) Qs Q.0 Q.1
        ((same_set-is (generation R A p) (translate_of Q.0 d)).1 Q.2))

    pub parts_pass_through : are_held_apart_through R P p d Qs ≡ true
    unfolding are_held_apart_through
    parts_pass_through =
        and_from (each_below (λ n. are_held_apart R (generation R P n) (generations R Qs n)) p) (come_again R p d Qs)
        (each_below_by (λ n. are_held_apart R (generation R P n) (generations R Qs n)) p (λ n h. parts_pass n)) again_pass
