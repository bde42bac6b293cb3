-- Which set of a list is the first that has a cell in generation n.
use Rattle.std.proofs.Common.{◌≡◌, ℕ, suc, ◌<◌, Bool, false, cond, List, [], ◌∷◌, inl, inr, sym, refl, ap, ◌∙◌, arith}
use Rattle.std.specs.List.{Contains}
use Rattle.std.proofs.lemmas.Bool.{cases_Bool, cond-true, cond-false, both_ways}
use Rattle.life_model.specs.Cell.{Cell}
use Rattle.life_model.specs.Rule.{Rule}
use Rattle.life_model.specs.Generation.{Generation, contains}
use Rattle.life_model.specs.Evolution.{generation}
use Rattle.life_objects.proofs.Lists.{Contains-head, Contains-later, head_or_later}
use Rattle.life_parts.specs.Parts.Ties.{IsIn}

module _ (R : Rule) (n : ℕ) where
  abbrev pub has : Generation → Cell → Bool
  has Q c = contains (generation R Q n) c

  abbrev pub first_with : List Generation → Cell → ℕ
  first_with [] c = 0
  first_with (Q ∷ Qs) c = cond (has Q c) 0 (suc (first_with Qs c))

  -- cells that the same sets have
  pub same_first : (Qs : List Generation) (c d : Cell) → ((Q : Generation) → Contains Qs Q → has Q c ≡ has Q d) →
      first_with Qs c ≡ first_with Qs d
  same_first [] c d h = refl
  same_first (Q ∷ Qs) c d h =
      let rest = same_first Qs c d (λ Q' one. h Q' (Contains-later Q Q' Qs one)) in
      λ i. cond (h Q (Contains-head Q Qs) i) 0 (suc (rest i))

  in_tail : (Q : Generation) (Qs : List Generation) (c : Cell) → has Q c ≡ false →
      (A : Generation) × Contains (Q ∷ Qs) A × IsIn R A n c → (A : Generation) × Contains Qs A × IsIn R A n c
  in_tail Q Qs c without some =
      elim (head_or_later Q some.0 Qs some.1.0 some.1.1 some.1.2) [
        | inl e ↦ absurd (both_ways (has Q c) without (ap (λ H. has H c) e ∙ some.2))
        | inr later ↦ (some.0, later, some.2)
      ]

  -- the first set of both
  pub first_of_both : (Qs : List Generation) (c d : Cell) → (A : Generation) × Contains Qs A × IsIn R A n c →
      (B : Generation) × Contains Qs B × IsIn R B n d → first_with Qs c ≡ first_with Qs d →
      (Q : Generation) × Contains Qs Q × IsIn R Q n c × IsIn R Q n d
  first_of_both [] c d some other e = let none : some.1.0 < 0 = some.1.1 in absurd (omega arith)
  first_of_both (Q ∷ Qs) c d some other e =
      elim (cases_Bool (has Q c)) [
        | inl x ↦ elim (cases_Bool (has Q d)) [
          | inl y ↦ (Q, Contains-head Q Qs, x, y)
          | inr y ↦ let z : 0 ≡ suc (first_with Qs d) = sym (cond-true (has Q c) 0 (suc (first_with Qs c)) x) ∙ e ∙ cond-false (has Q d) 0 (suc (first_with Qs d)) y in absurd (omega arith)
        ]
        | inr x ↦ elim (cases_Bool (has Q d)) [
          | inl y ↦ let z : suc (first_with Qs c) ≡ 0 = sym (cond-false (has Q c) 0 (suc (first_with Qs c)) x) ∙ e ∙ cond-true (has Q d) 0 (suc (first_with Qs d)) y in absurd (omega arith)
          | inr y ↦
              let z : suc (first_with Qs c) ≡ suc (first_with Qs d) = sym (cond-false (has Q c) 0 (suc (first_with Qs c)) x) ∙ e ∙ cond-false (has Q d) 0 (suc (first_with Qs d)) y in
              let w : first_with Qs c ≡ first_with Qs d = omega arith in
              let r = first_of_both Qs c d (in_tail Q Qs c x some) (in_tail Q Qs d y other) w in
              (r.0, Contains-later Q r.0 Qs r.1, r.2, r.3)
        ]
      ]
