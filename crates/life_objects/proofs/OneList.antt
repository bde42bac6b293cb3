-- Ash has one list of parts.
use Rattle.std.proofs.Common.{◌≡◌, ◌≢◌, ℕ, true, List, ◌∷◌, inl, inr, sym, subst, ap, ◌∙◌, arith}
use Rattle.std.specs.List.{All, AllPairs, Contains}
use Rattle.std.specs.List.Sorted.{IsPermutation}
use Rattle.std.proofs.lemmas.List.Elements.{All-map, All-weaker}
use Rattle.std.proofs.lemmas.List.Sorted.{list_any-IsPermutation}
use Rattle.life_model.specs.Cell.{Cell}
use Rattle.life_model.specs.Rule.{Rule}
use Rattle.life_model.specs.Generation.{Generation, contains, empty}
use Rattle.life_model.specs.Evolution.{generation}
use Rattle.life_model.proofs.Generations.{same_members}
use Rattle.life_model.proofs.Moves.{nothing_or_some}
use Rattle.life_model.proofs.Recurrences.{generation-zero}
use Rattle.life_objects.specs.Apart.{AreApart, AreApartForEver}
use Rattle.life_objects.specs.Ash.{IsAsh}
use Rattle.life_objects.specs.Union.{generations, union, union_of}
use Rattle.life_objects.proofs.Ashes.{object_lives, object_of}
use Rattle.life_objects.proofs.Distances.{apart_from_union_of}
use Rattle.life_objects.proofs.Lists.{IsSetAside, set_aside, same_elements}
use Rattle.life_objects.proofs.Many.{list_ever}
use Rattle.life_objects.proofs.Members.{found_in}
use Rattle.life_objects.proofs.Sharing.{one_if_shared}
use Rattle.life_objects.proofs.Times.{AreApartForEver-swap, disjoint_ever, generation-union_ever}
use Rattle.life_objects.proofs.Unions.{contains-union_of, in_first}

-- the union of a list does not depend on its order
pub union_of-IsPermutation : (Ps Qs : List Generation) → IsPermutation Ps Qs → union_of Ps ≡ union_of Qs
union_of-IsPermutation Ps Qs order = same_members _ _ (λ c.
    contains-union_of Ps c ∙ list_any-IsPermutation (λ P. contains P c) Ps Qs order ∙ sym (contains-union_of Qs c))

module _ (R : Rule) where
  -- a set that is apart for ever from each of a list, of which any two are too, is so from their union
  pub apart_from_list : (P : Generation) (Qs : List Generation) → All (AreApartForEver R P) Qs →
      AllPairs (AreApartForEver R) Qs → AreApartForEver R P (union_of Qs)
  apart_from_list P Qs far pairs n =
      subst (AreApart (generation R P n)) (sym (list_ever R n Qs pairs))
      (apart_from_union_of (generation R P n) (generations R Qs n)
      (All-map (AreApart (generation R P n)) (λ Q. generation R Q n) Qs
      (All-weaker (AreApartForEver R P) (λ Q. AreApart (generation R P n) (generation R Q n)) (λ Q a. a n) Qs far)))

  pub apart_differ : (P Q : Generation) → P ≢ empty → AreApartForEver R P Q → P ≢ Q
  apart_differ P Q some far same =
      elim (nothing_or_some P) [
        | inl none ↦ some none
        | inr cell ↦ disjoint_ever R 0 P Q far cell.0
            (ap (λ H. contains H cell.0) (generation-zero R P) ∙ cell.1)
            (ap (λ H. contains H cell.0) (generation-zero R Q ∙ sym same) ∙ cell.1)
      ]

  module _ (b : ℕ) (G : Generation) (parts : List Generation) (ash : IsAsh R b G parts) where
    pub parts_differ : AllPairs (λ P Q. P ≢ Q) parts
    parts_differ i j d h k = apart_differ _ _ (ash.objects i d (omega arith)).nonempty (ash.apart i j d h k)

    module _ (P : Generation) (one : Contains parts P) where
      abbrev aside : IsSetAside (AreApartForEver R) parts P
      aside = set_aside (AreApartForEver R) (AreApartForEver-swap R) parts P one ash.apart

      abbrev pub rest_of : Generation
      rest_of = union_of aside.rest

      pub apart_from_rest : AreApartForEver R P rest_of
      apart_from_rest = apart_from_list P aside.rest aside.related aside.pairs

      pub with_rest : union P rest_of ≡ G
      with_rest = sym (union_of-IsPermutation parts (P ∷ aside.rest) aside.order) ∙ ash.together

      pub in_whole : (n : ℕ) (x : Cell) → contains (generation R P n) x ≡ true → contains (generation R G n) x ≡ true
      in_whole n x h =
          ap (λ H. contains H x) (sym (ap (λ H. generation R H n) with_rest)
          ∙ generation-union_ever R n P rest_of apart_from_rest)
          ∙ in_first (generation R P n) (generation R rest_of n) x h

  module _ (b c : ℕ) (G : Generation) (parts others : List Generation) (ash : IsAsh R b G parts)
      (too : IsAsh R c G others) where
    part_of_other : (P : Generation) → Contains parts P → Contains others P
    part_of_other P one =
        elim (nothing_or_some (generation R P b)) [
          | inl none ↦ absurd (object_lives R b P (object_of R b G parts ash P one) b none)
          | inr cell ↦
              let there = ap (λ H. contains H cell.0)
              (sym (list_ever R b others too.apart) ∙ ap (λ H. generation R H b) too.together)
              ∙ in_whole b G parts ash P one b cell.0 cell.1 in
              let q = found_in R b others cell.0 there in
              let same : P ≡ q.0 =
              one_if_shared R b c P q.0 (object_of R b G parts ash P one) (object_of R c G others too q.0 q.1)
              (rest_of b G parts ash P one) (rest_of c G others too q.0 q.1)
              (apart_from_rest b G parts ash P one) (apart_from_rest c G others too q.0 q.1)
              (with_rest b G parts ash P one ∙ sym (with_rest c G others too q.0 q.1)) cell.0 cell.1 q.2 in
              subst (λ K. Contains others K) (sym same) q.1
        ]

  pub part_of_both : (b c : ℕ) (G : Generation) (parts others : List Generation) → IsAsh R b G parts →
      IsAsh R c G others → (P : Generation) → Contains parts P → Contains others P
  part_of_both b c G parts others ash too P one = part_of_other b c G parts others ash too P one

  pub one_list : (b c : ℕ) (G : Generation) (parts others : List Generation) → IsAsh R b G parts →
      IsAsh R c G others → IsPermutation parts others
  one_list b c G parts others ash too =
      same_elements parts others (parts_differ b G parts ash) (parts_differ c G others too)
      (part_of_both b c G parts others ash too) (part_of_both c b G others parts too ash)
