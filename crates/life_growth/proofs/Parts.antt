-- A set that stays apart for ever from the rest of another.
use Rattle.std.proofs.Common.{◌≡◌, ◌≢◌, ℕ, ◌⊎◌, inl, inr, sym, refl, ap, subst, ◌∙◌}
use Rattle.life_model.specs.Rule.{Rule}
use Rattle.life_model.specs.Generation.{Generation, contains, empty}
use Rattle.life_model.specs.Evolution.{generation}
use Rattle.life_model.proofs.Moves.{nothing_or_some}
use Rattle.life_objects.specs.Apart.{AreApart, AreApartForEver, AreDisjoint}
use Rattle.life_objects.specs.Union.{IsSubsetOf, union}
use Rattle.life_objects.proofs.Ashes.{AreApartForEver-later}
use Rattle.life_objects.proofs.Crossings.{AreCrossings, AreCrossingsAt, crossings_now, crossings_later, first_apart_second, second_apart_first, meet}
use Rattle.life_objects.proofs.Distances.{apart_from_union}
use Rattle.life_objects.proofs.Sides.{within_each_other}
use Rattle.life_objects.proofs.Times.{AreApartForEver-swap, disjoint_ever, generation-union_ever}
use Rattle.life_objects.proofs.Unions.{in_union, in_empty, in_first, in_second, union-comm, union-empty}
use Rattle.life_growth.specs.Unsplit.{IsUnsplit}

-- P and the rest, from which P stays apart, make up Q
pub record IsPart (R : Rule) (P Q : Generation) : Type 0 where
  pub rest : Generation
  pub together : union P rest ≡ Q
  pub apart : AreApartForEver R P rest

module _ (R : Rule) where
  pub disjoint_now : (P Q : Generation) → AreApartForEver R P Q → AreDisjoint P Q
  unfolding generation
  disjoint_now P Q far = disjoint_ever R 0 P Q far

  pub apart_from_both : (P Q S : Generation) → AreApartForEver R P Q → AreApartForEver R P S → AreApartForEver R Q S →
      AreApartForEver R P (union Q S)
  apart_from_both P Q S q s far n =
      subst (AreApart (generation R P n)) (sym (generation-union_ever R n Q S far))
      (apart_from_union (generation R P n) (generation R Q n) (generation R S n) (q n) (s n))

  pub both_apart : (P Q S : Generation) → AreApartForEver R P S → AreApartForEver R Q S → AreApartForEver R P Q →
      AreApartForEver R (union P Q) S
  both_apart P Q S p q far =
      AreApartForEver-swap R S (union P Q)
      (apart_from_both S P Q (AreApartForEver-swap R P S p) (AreApartForEver-swap R Q S q) far)

  pub IsPart-first : (P Q : Generation) → AreApartForEver R P Q → IsPart R P (union P Q)
  IsPart-first P Q far = record { rest = Q; together = refl; apart = far }

  pub IsPart-second : (P Q : Generation) → AreApartForEver R P Q → IsPart R Q (union P Q)
  IsPart-second P Q far = record { rest = P; together = union-comm Q P; apart = AreApartForEver-swap R P Q far }

  module _ (P Q : Generation) (part : IsPart R P Q) where
    pub part_later : (n : ℕ) → IsPart R (generation R P n) (generation R Q n)
    part_later n = record {
      rest = generation R part.rest n;
      together = sym (generation-union_ever R n P part.rest part.apart) ∙ ap (λ H. generation R H n) part.together;
      apart = AreApartForEver-later R n P part.rest part.apart;
    }

    pub part_within : IsSubsetOf P Q
    part_within c h = ap (λ H. contains H c) (sym part.together) ∙ in_first P part.rest c h

  pub part_within_later : (P Q : Generation) → IsPart R P Q → (n : ℕ) → IsSubsetOf (generation R P n) (generation R Q n)
  part_within_later P Q part n = part_within (generation R P n) (generation R Q n) (part_later P Q part n)

  -- what is apart from the whole is apart from a part
  pub part_apart : (P Q S : Generation) → IsPart R P Q → AreApartForEver R Q S → AreApartForEver R P S
  part_apart P Q S part far n c d h k = far n c d (part_within_later P Q part n c h) k

  pub apart_part : (P Q S : Generation) → IsPart R P Q → AreApartForEver R S Q → AreApartForEver R S P
  apart_part P Q S part far n c d h k = far n c d h (part_within_later P Q part n d k)

  -- where two sets make up what two others do, the first of them lies in one of these, if it is unsplit
  module _ (b : ℕ) (P P_rest : Generation) (p_far : AreApartForEver R P P_rest) (unsplit : IsUnsplit R b P) where
    module _ (Q Q_rest : Generation) (q_far : AreApartForEver R Q Q_rest) (same : union P P_rest ≡ union Q Q_rest) where
      abbrev A : Generation
      A = meet P Q

      abbrev B : Generation
      B = meet P Q_rest

      abbrev C : Generation
      C = meet P_rest Q

      abbrev D : Generation
      D = meet P_rest Q_rest

      now : AreCrossings A B C D P P_rest Q Q_rest
      now = crossings_now P P_rest Q Q_rest same

      later : (n : ℕ) → AreCrossingsAt R n A B C D P P_rest Q Q_rest
      later = crossings_later R P P_rest Q Q_rest p_far q_far A B C D now

      crossings_apart : AreApartForEver R A B
      crossings_apart n = second_apart_first _ _ _ _ _ _ _ _ (later n) (q_far n)

      first_apart_other : AreApartForEver R A C
      first_apart_other n = first_apart_second _ _ _ _ _ _ _ _ (later n) (p_far n)

      within_first : B ≡ empty → IsPart R P Q
      within_first none =
          let all : P ≡ A = now.first ∙ ap (union A) none ∙ union-empty A in
          record {
            rest = C;
            together = ap (λ H. union H C) all ∙ sym now.second;
            apart = subst (λ H. AreApartForEver R H C) (sym all) first_apart_other;
          }

      not_both : A ≢ empty → B ≢ empty → ⊥
      not_both = unsplit.whole A B (record { together = sym now.first; apart = λ n h. crossings_apart n })

    pub in_one : (Q Q_rest : Generation) → AreApartForEver R Q Q_rest → union P P_rest ≡ union Q Q_rest →
        IsPart R P Q ⊎ IsPart R P Q_rest
    in_one Q Q_rest q_far same =
        elim (nothing_or_some (meet P Q_rest)) [
          | inl none ↦ inl (within_first Q Q_rest q_far same none)
          | inr some ↦ elim (nothing_or_some (meet P Q)) [
            | inl none ↦ inr (within_first Q_rest Q (AreApartForEver-swap R Q Q_rest q_far)
                (same ∙ union-comm Q Q_rest) none)
            | inr other ↦ absurd (not_both Q Q_rest q_far same
                (λ none. in_empty other.0 (ap (λ H. contains H other.0) (sym none) ∙ other.1))
                (λ none. in_empty some.0 (ap (λ H. contains H some.0) (sym none) ∙ some.1)))
          ]
        ]

  -- only one set makes up the rest with a given set
  pub rest_is_disjoint : (P Q S : Generation) → AreDisjoint P Q → AreDisjoint P S → union P Q ≡ union P S → Q ≡ S
  rest_is_disjoint P Q S q s same =
      let to : (Q S : Generation) → AreDisjoint P Q → union P Q ≡ union P S → IsSubsetOf Q S =
      λ Q S far same c h. elim (in_union P S c (ap (λ H. contains H c) (sym same) ∙ in_second P Q c h)) [
        | inl x ↦ absurd (far c x h)
        | inr y ↦ y
      ] in
      within_each_other Q S (to Q S q same) (to S Q s (sym same))

  pub rest_is_one : (P Q S : Generation) → AreApartForEver R P Q → AreApartForEver R P S → union P Q ≡ union P S → Q ≡ S
  rest_is_one P Q S q s same = rest_is_disjoint P Q S (disjoint_now P Q q) (disjoint_now P S s) same
