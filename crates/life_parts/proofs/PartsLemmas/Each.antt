-- The independent parts of the sets of a list.
use Rattle.std.proofs.Common.{◌≡◌, ◌<◌, List, [], ◌∷◌, inl, inr, sym, refl, subst, ◌∙◌, arith}
use Rattle.std.specs.List.{All, AllPairs, Contains}
use Rattle.std.proofs.lemmas.List.Elements.{All-contains, All-contains_itself, All-weaker, Contains-append_cases, Contains-append_left, Contains-append_right}
use Rattle.life_model.specs.Rule.{Rule}
use Rattle.life_model.specs.Generation.{Generation}
use Rattle.life_objects.specs.Apart.{AreApartForEver, AreDisjoint}
use Rattle.life_objects.specs.Onset.{Recurs}
use Rattle.life_objects.specs.Union.{IsSubsetOf, union, union_of}
use Rattle.life_objects.proofs.Lists.{AllPairs-append, AllPairs-head, AllPairs-nil, AllPairs-tail, Contains-head, Contains-later, IsSetAside, head_or_later, set_aside}
use Rattle.life_objects.proofs.OneList.{apart_from_list, union_of-IsPermutation}
use Rattle.life_objects.proofs.Times.{AreApartForEver-swap, disjoint_ever}
use Rattle.life_objects.proofs.Unions.{union_of-append}
use Rattle.life_parts.specs.Parts.Parts.{AreIndependentParts, ArePartsOfEach, IsIndependentPart, joined}
use Rattle.life_parts.proofs.PartsLemmas.Both.{part_of_whole}
use Rattle.life_parts.proofs.PartsLemmas.Evolving.{at_first, part_of}

-- Q is one of the independent parts of one of the sets.
pub record IsPartOfOne (R : Rule) (Ps : List Generation) (Q : Generation) : Type 0 where
  pub set : Generation
  pub listed : Contains Ps set
  pub parts : List Generation
  pub are : AreIndependentParts R set parts
  pub one : Contains parts Q

module _ (R : Rule) where
  pub from_joined : (Ps : List Generation) (lists : List (List Generation)) → ArePartsOfEach R Ps lists →
      (Q : Generation) → Contains (joined lists) Q → IsPartOfOne R Ps Q
  from_joined [] [] each Q one = let none : one.0 < 0 = one.1 in absurd (omega arith)
  from_joined [] (Qs ∷ lists) each Q one = absurd each
  from_joined (P ∷ Ps) [] each Q one = absurd each
  from_joined (P ∷ Ps) (Qs ∷ lists) each Q one =
      elim (Contains-append_cases Qs (joined lists) Q one) [
        | inl here ↦ record { set = P; listed = Contains-head P Ps; parts = Qs; are = each.0; one = here }
        | inr later ↦
            let q = from_joined Ps lists each.1 Q later in
            record { set = q.set; listed = Contains-later P q.set Ps q.listed; parts = q.parts; are = q.are; one = q.one }
      ]

  pub parts_listed : (Ps : List Generation) (lists : List (List Generation)) → ArePartsOfEach R Ps lists →
      (P : Generation) → Contains Ps P →
      (Qs : List Generation) × AreIndependentParts R P Qs × ((Q : Generation) → Contains Qs Q → Contains (joined lists) Q)
  parts_listed [] lists each P one = let none : one.0 < 0 = one.1 in absurd (omega arith)
  parts_listed (A ∷ Ps) [] each P one = absurd each
  parts_listed (A ∷ Ps) (Qs ∷ lists) each P one =
      elim (head_or_later A P Ps one.0 one.1 one.2) [
        | inl e ↦ (
          Qs,
          subst (λ H. AreIndependentParts R H Qs) e each.0,
          λ Q in_Qs. Contains-append_left Qs (joined lists) Q in_Qs,
        )
        | inr later ↦
            let q = parts_listed Ps lists each.1 P later in
            (q.0, q.1, λ Q in_q. Contains-append_right Qs (joined lists) Q (q.2 Q in_q))
      ]

  pub joined_together : (Ps : List Generation) (lists : List (List Generation)) → ArePartsOfEach R Ps lists →
      union_of (joined lists) ≡ union_of Ps
  joined_together [] [] each = refl
  joined_together [] (Qs ∷ lists) each = absurd each
  joined_together (P ∷ Ps) [] each = absurd each
  joined_together (P ∷ Ps) (Qs ∷ lists) each =
      union_of-append Qs (joined lists)
      ∙ (λ i. union (each.0.together i) (joined_together Ps lists each.1 i))

  part_within : (Ps : List Generation) (Q : Generation) (part : IsPartOfOne R Ps Q) → IsSubsetOf Q part.set
  part_within Ps Q part = (part_of R part.set part.parts part.are Q part.one).within

  pub joined_once : (Ps : List Generation) (lists : List (List Generation)) → ArePartsOfEach R Ps lists →
      AllPairs (AreApartForEver R) Ps → AllPairs AreDisjoint (joined lists)
  joined_once [] [] each far = AllPairs-nil AreDisjoint
  joined_once [] (Qs ∷ lists) each far = absurd each
  joined_once (P ∷ Ps) [] each far = absurd each
  joined_once (P ∷ Ps) (Qs ∷ lists) each far =
      AllPairs-append AreDisjoint Qs (joined lists) each.0.once
      (joined_once Ps lists each.1 (AllPairs-tail (AreApartForEver R) P Ps far))
      (λ A B one two c h k.
      let q = from_joined Ps lists each.1 B two in
      let apart = All-contains (AreApartForEver R P) Ps q.set (AllPairs-head (AreApartForEver R) P Ps far) q.listed in
      disjoint_ever R 0 P q.set apart c
      (at_first R P c ((part_of R P Qs each.0 A one).within c h))
      (at_first R q.set c (part_within Ps B q c k)))

  module _ (Ps : List Generation) (lists : List (List Generation)) (again : All (Recurs R) Ps)
      (all_again : Recurs R (union_of Ps)) (far : AllPairs (AreApartForEver R) Ps) (each : ArePartsOfEach R Ps lists) where
    part_of_all : (Q : Generation) → Contains (joined lists) Q → IsIndependentPart R (union_of Ps) Q
    part_of_all Q one =
        let q = from_joined Ps lists each Q one in
        let P = q.set in
        let aside : IsSetAside (AreApartForEver R) Ps P =
        set_aside (AreApartForEver R) (AreApartForEver-swap R) Ps P q.listed far in
        let whole : union_of Ps ≡ union P (union_of aside.rest) = union_of-IsPermutation Ps (P ∷ aside.rest) aside.order in
        subst (λ H. IsIndependentPart R H Q) (sym whole)
        (part_of_whole R P (union_of aside.rest) (apart_from_list R P aside.rest aside.related aside.pairs)
        (All-contains (Recurs R) Ps P again q.listed) (subst (Recurs R) whole all_again) Q
        (part_of R P q.parts q.are Q q.one))

    pub parts_of_all : AreIndependentParts R (union_of Ps) (joined lists)
    parts_of_all = record {
      together = joined_together Ps lists each;
      parts = All-weaker (Contains (joined lists)) (IsIndependentPart R (union_of Ps)) part_of_all (joined lists)
          (All-contains_itself (joined lists));
      once = joined_once Ps lists each far;
    }
