-- Sets with a gap between them that moves only widen.
use Rattle.std.proofs.Common.{◌≡◌, ℕ, zero, suc, ℤ, ◌+ℤ◌, ◌≤ℤ◌, ◌+◌, ◌-◌, ◌<◌, ◌/◌, ◌%◌, inl, inr, sym, ap, subst}
use Rattle.std.proofs.Common.{◌∙◌, mod-lt, arith}
use Rattle.std.proofs.lemmas.Bool.{cases_lt}
use Rattle.std.proofs.lemmas.Int.{ints}
use Rattle.life_model.specs.Cell.{Cell, plus, opposite}
use Rattle.life_model.specs.Rule.{Rule}
use Rattle.life_model.specs.Generation.{Generation}
use Rattle.life_model.specs.Evolution.{generation}
use Rattle.life_model.specs.Symmetry.{translate_of}
use Rattle.life_model.specs.Recurrence.{RecursBy}
use Rattle.life_model.proofs.Recurrences.{generation-add}
use Rattle.life_model.proofs.Symmetries.{contains-moved}
use Rattle.life_objects.specs.Apart.{AreApart, AreApartBefore, AreApartForEver}
use Rattle.life_objects.specs.Drift.{IsRightOf, IsBelow}
use Rattle.life_objects.specs.Drift.{multiple_of}
use Rattle.life_objects.proofs.Moving.{generation-wrapped}
use Rattle.life_objects.proofs.Recurring.{RecursBy-later}

right_is_apart : (P Q : Generation) → IsRightOf P Q → AreApart P Q
right_is_apart P Q far c d h k near =
    let gap = far c d h k in
    let close = near.right in
    absurd (omega (arith, ints))

below_is_apart : (P Q : Generation) → IsBelow P Q → AreApart P Q
below_is_apart P Q far c d h k near =
    let gap = far c d h k in
    let close = near.below in
    absurd (omega (arith, ints))

le_sum : (a b c d : ℤ) → a ≤ℤ b → c ≤ℤ d → (a +ℤ c) ≤ℤ (b +ℤ d)
le_sum a b c d h k = omega (arith, ints)

times_right : (k : ℕ) (d e : Cell) → e.0 ≤ℤ d.0 → (multiple_of k e).0 ≤ℤ (multiple_of k d).0
times_right zero d e h = omega (arith, ints)
times_right (suc k) d e h = le_sum (multiple_of k e).0 (multiple_of k d).0 e.0 d.0 (times_right k d e h) h

times_below : (k : ℕ) (d e : Cell) → e.1 ≤ℤ d.1 → (multiple_of k e).1 ≤ℤ (multiple_of k d).1
times_below zero d e h = omega (arith, ints)
times_below (suc k) d e h = le_sum (multiple_of k e).1 (multiple_of k d).1 e.1 d.1 (times_below k d e h) h

right_moved : (P Q : Generation) (d e : Cell) → e.0 ≤ℤ d.0 → IsRightOf P Q → IsRightOf (translate_of P d) (translate_of Q e)
right_moved P Q d e le far a b h k =
    let gap = far (plus a (opposite d)) (plus b (opposite e)) (sym (contains-moved P d a) ∙ h)
    (sym (contains-moved Q e b) ∙ k) in
    omega (arith, ints)

below_moved : (P Q : Generation) (d e : Cell) → e.1 ≤ℤ d.1 → IsBelow P Q → IsBelow (translate_of P d) (translate_of Q e)
below_moved P Q d e le far a b h k =
    let gap = far (plus a (opposite d)) (plus b (opposite e)) (sym (contains-moved P d a) ∙ h)
    (sym (contains-moved Q e b) ∙ k) in
    omega (arith, ints)

module _ (R : Rule) (g n : ℕ) (P Q : Generation) (d e : Cell) (r : RecursBy R P n d) (s : RecursBy R Q n e) where
  -- generation g + m is one of the n from g on, moved
  wrapped : (m : ℕ) (H : Generation) (f : Cell) → RecursBy R H n f →
      generation R H (g + m) ≡ translate_of (generation R H (g + m % n)) (multiple_of (m / n) f)
  wrapped m H f again =
      sym (generation-add R H g m) ∙ generation-wrapped R (generation R H g) n f (RecursBy-later R H n f again g) m
      ∙ ap (λ K. translate_of K (multiple_of (m / n) f)) (generation-add R H g (m % n))

  module _ (Gap : Generation → Generation → Type 0) (far : (A B : Generation) → Gap A B → AreApart A B)
      (stays : (k : ℕ) (A B : Generation) → Gap A B → Gap (translate_of A (multiple_of k d)) (translate_of B (multiple_of k e)))
      (before : AreApartBefore R g P Q)
      (gap : (m : ℕ) → m < n → Gap (generation R P (g + m)) (generation R Q (g + m))) where
    gap_later : (m : ℕ) → Gap (generation R P (g + m)) (generation R Q (g + m))
    gap_later m =
        subst (λ H. Gap H (generation R Q (g + m))) (sym (wrapped m P d r))
        (subst (Gap (translate_of (generation R P (g + m % n)) (multiple_of (m / n) d))) (sym (wrapped m Q e s))
        (stays (m / n) (generation R P (g + m % n)) (generation R Q (g + m % n)) (gap (m % n) (mod-lt m r.later))))

    apart_by_gap : AreApartForEver R P Q
    apart_by_gap m =
        elim (cases_lt m g) [
          | inl h ↦ before m h
          | inr h ↦
              let rest : ℕ = m - g in
              subst (λ k. AreApart (generation R P k) (generation R Q k)) (let z : g + rest ≡ m = omega arith in z)
              (far (generation R P (g + rest)) (generation R Q (g + rest)) (gap_later rest))
        ]

  pub apart_by_right : AreApartBefore R g P Q → e.0 ≤ℤ d.0 →
      ((m : ℕ) → m < n → IsRightOf (generation R P (g + m)) (generation R Q (g + m))) → AreApartForEver R P Q
  apart_by_right before le gap =
      apart_by_gap IsRightOf right_is_apart
      (λ k A B. right_moved A B (multiple_of k d) (multiple_of k e) (times_right k d e le)) before gap

  pub apart_by_below : AreApartBefore R g P Q → e.1 ≤ℤ d.1 →
      ((m : ℕ) → m < n → IsBelow (generation R P (g + m)) (generation R Q (g + m))) → AreApartForEver R P Q
  apart_by_below before le gap =
      apart_by_gap IsBelow below_is_apart
      (λ k A B. below_moved A B (multiple_of k d) (multiple_of k e) (times_below k d e le)) before gap
