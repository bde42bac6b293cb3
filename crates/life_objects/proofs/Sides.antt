-- A list of sets, each of which lies in one of the two sets of a split, falls into a list for each side.
use Rattle.std.proofs.Common.{◌≡◌, ℕ, true, List, [], ◌∷◌, ◌⊎◌, inl, inr, sym, ap, subst, ◌∙◌, arith}
use Rattle.std.specs.List.{All, AllPairs, Contains}
use Rattle.std.specs.Cmp.{both_ways}
use Rattle.std.proofs.lemmas.List.Elements.{All-nil, All-head, All-tail, All-cons, All-contains, All-weaker}
use Rattle.std.proofs.lemmas.List.Elements.{All-contains_itself}
use Rattle.std.proofs.lemmas.List.Kept.{AllPairs-cons}
use Rattle.life_model.specs.Cell.{Cell}
use Rattle.life_model.specs.Rule.{Rule}
use Rattle.life_model.specs.Generation.{Generation, contains}
use Rattle.life_model.specs.Evolution.{generation}
use Rattle.life_model.proofs.Generations.{same_members}
use Rattle.life_objects.specs.Apart.{AreDisjoint}
use Rattle.life_objects.specs.Piece.{IsSplit}
use Rattle.life_objects.specs.Union.{union, union_of}
use Rattle.life_objects.specs.Union.{IsSubsetOf}
use Rattle.life_objects.proofs.Distances.{disjoint_from_apart}
use Rattle.life_objects.proofs.Lists.{AllPairs-nil, AllPairs-head, AllPairs-tail, Contains-head, Contains-later}
use Rattle.life_objects.proofs.Lists.{head_or_later}
use Rattle.life_objects.proofs.Members.{found_now, in_list_now}
use Rattle.life_objects.proofs.Unions.{in_first, in_second}

-- S holds of any two of the list, and of any two of each side
pub record AreSides (S : Generation → Generation → Type 0) (A B : Generation) (Ps : List Generation) : Type 0 where
  pub first : List Generation
  pub second : List Generation
  pub first_within : All (λ P. IsSubsetOf P A) first
  pub second_within : All (λ P. IsSubsetOf P B) second
  pub first_of : (P : Generation) → Contains first P → Contains Ps P
  pub second_of : (P : Generation) → Contains second P → Contains Ps P
  pub first_pairs : AllPairs S first
  pub second_pairs : AllPairs S second
  pub either : (P : Generation) → Contains Ps P → Contains first P ⊎ Contains second P

module _ (S : Generation → Generation → Type 0) where
  -- what holds of each of a list holds of each of a smaller one
  all_of_fewer : (P : Generation) (Ps Qs : List Generation) → All (S P) Ps →
      ((Q : Generation) → Contains Qs Q → Contains Ps Q) → All (S P) Qs
  all_of_fewer P Ps Qs all fewer =
      All-weaker (Contains Qs) (S P) (λ Q one. All-contains (S P) Ps Q all (fewer Q one)) Qs (All-contains_itself Qs)

  later_or_head : (P : Generation) (Ps Qs : List Generation) → ((Q : Generation) → Contains Qs Q → Contains Ps Q) →
      (Q : Generation) → Contains (P ∷ Qs) Q → Contains (P ∷ Ps) Q
  later_or_head P Ps Qs fewer Q one =
      elim (head_or_later P Q Qs one.0 one.1 one.2) [
        | inl e ↦ subst (Contains (P ∷ Ps)) e (Contains-head P Ps)
        | inr later ↦ Contains-later P Q Ps (fewer Q later)
      ]

  module _ (A B : Generation) where
    pub sides : (Ps : List Generation) → All (λ P. IsSubsetOf P A ⊎ IsSubsetOf P B) Ps → AllPairs S Ps → AreSides S A B Ps
    sides [] side pairs = record {
      first = [];
      second = [];
      first_within = All-nil (λ P. IsSubsetOf P A);
      second_within = All-nil (λ P. IsSubsetOf P B);
      first_of = λ P one. one;
      second_of = λ P one. one;
      first_pairs = AllPairs-nil S;
      second_pairs = AllPairs-nil S;
      either = λ P one. inl one;
    }
    sides (P ∷ Ps) side pairs =
        let rest = sides Ps (All-tail (λ P. IsSubsetOf P A ⊎ IsSubsetOf P B) P Ps side) (AllPairs-tail S P Ps pairs) in
        let other = AllPairs-head S P Ps pairs in
        elim (All-head (λ P. IsSubsetOf P A ⊎ IsSubsetOf P B) P Ps side) [
          | inl a ↦ record {
            first = P ∷ rest.first;
            second = rest.second;
            first_within = All-cons (λ P. IsSubsetOf P A) P rest.first a rest.first_within;
            second_within = rest.second_within;
            first_of = later_or_head P Ps rest.first rest.first_of;
            second_of = λ Q one. Contains-later P Q Ps (rest.second_of Q one);
            first_pairs = AllPairs-cons S P rest.first
                (all_of_fewer P Ps rest.first other rest.first_of) rest.first_pairs;
            second_pairs = rest.second_pairs;
            either = λ Q one. elim (head_or_later P Q Ps one.0 one.1 one.2) [
              | inl e ↦ inl (subst (Contains (P ∷ rest.first)) e (Contains-head P rest.first))
              | inr later ↦ elim (rest.either Q later) [
                | inl x ↦ inl (Contains-later P Q rest.first x)
                | inr y ↦ inr y
              ]
            ];
          }
          | inr b ↦ record {
            first = rest.first;
            second = P ∷ rest.second;
            first_within = rest.first_within;
            second_within = All-cons (λ P. IsSubsetOf P B) P rest.second b rest.second_within;
            first_of = λ Q one. Contains-later P Q Ps (rest.first_of Q one);
            second_of = later_or_head P Ps rest.second rest.second_of;
            first_pairs = rest.first_pairs;
            second_pairs = AllPairs-cons S P rest.second
                (all_of_fewer P Ps rest.second other rest.second_of) rest.second_pairs;
            either = λ Q one. elim (head_or_later P Q Ps one.0 one.1 one.2) [
              | inl e ↦ inr (subst (Contains (P ∷ rest.second)) e (Contains-head P rest.second))
              | inr later ↦ elim (rest.either Q later) [
                | inl x ↦ inl x
                | inr y ↦ inr (Contains-later P Q rest.second y)
              ]
            ];
          }
        ]

pub within_each_other : (P Q : Generation) → IsSubsetOf P Q → IsSubsetOf Q P → P ≡ Q
within_each_other P Q to back = same_members P Q (λ c. both_ways _ _ (to c) (back c))

module _ (R : Rule) (b : ℕ) (G A B : Generation) (split : IsSplit R b G A B) where
  pub split_disjoint : AreDisjoint A B
  unfolding generation
  split_disjoint = disjoint_from_apart A B (split.apart 0 (omega arith))

  module _ (S : Generation → Generation → Type 0) (Ps : List Generation) (whole : union_of Ps ≡ G)
      (s : AreSides S A B Ps) where
    side_of : (c : Cell) → contains (union A B) c ≡ true →
        (contains (union_of s.first) c ≡ true) ⊎ (contains (union_of s.second) c ≡ true)
    side_of c h =
        let P = found_now R Ps c (ap (λ H. contains H c) (whole ∙ sym split.together) ∙ h) in
        elim (s.either P.0 P.1) [
          | inl x ↦ inl (in_list_now R s.first P.0 c x P.2)
          | inr y ↦ inr (in_list_now R s.second P.0 c y P.2)
        ]

    first_inside : IsSubsetOf (union_of s.first) A
    first_inside c h =
        let P = found_now R s.first c h in All-contains (λ P. IsSubsetOf P A) s.first P.0 s.first_within P.1 c P.2

    second_inside : IsSubsetOf (union_of s.second) B
    second_inside c h =
        let P = found_now R s.second c h in All-contains (λ P. IsSubsetOf P B) s.second P.0 s.second_within P.1 c P.2

    -- each set of the split is the union of its side
    pub first_side : A ≡ union_of s.first
    first_side =
        within_each_other A (union_of s.first)
        (λ c h. elim (side_of c (in_first A B c h)) [
          | inl x ↦ x
          | inr y ↦ absurd (split_disjoint c h (second_inside c y))
        ]) first_inside

    pub second_side : B ≡ union_of s.second
    second_side =
        within_each_other B (union_of s.second)
        (λ c h. elim (side_of c (in_second A B c h)) [
          | inl x ↦ absurd (split_disjoint c (first_inside c x) h)
          | inr y ↦ y
        ]) second_inside
