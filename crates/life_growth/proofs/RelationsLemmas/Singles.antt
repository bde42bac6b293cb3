-- What follows from a function that is 0 for all steps but one.
use Rattle.std.proofs.Common.{◌≡◌, ◌≢◌, ℕ, zero, suc, ◌+◌, ◌*◌, ◌<◌, ◌≤◌, ◌⊎◌, ℤ, pos, negsuc, neg_ℤ, List, [], ◌∷◌, inl, inr, sym, refl, ap, ◌∙◌, ◌/◌, arith}
use Rattle.std.proofs.lemmas.Int.{ints}
use Rattle.std.proofs.Math.Nat.{mul-div_cancel}
use Rattle.life_growth.specs.Meeting.Sums.{Step, and_then, times}
use Rattle.life_growth.specs.Relations.Relations.{IsAdditive, IsSumOf, SinglesOut, left_out, number_at, rest_of, step_at}
use Rattle.life_growth.proofs.RelationsLemmas.Numbers.{others_sum, skipped, split_at, sum_by, sum_by-numbers, whole_sum}

pub same_product : (m n a : ℕ) → 1 ≤ a → m * a ≡ n * a → m ≡ n
same_product m n a some e =
    let more : 0 < a = omega arith in
    sym (mul-div_cancel m more) ∙ ap (λ b. b / a) e ∙ mul-div_cancel n more

module _ (f : Step → ℤ) (additive : IsAdditive f) where
  times_none : (k : ℕ) (u : Step) → f u ≡ pos 0 → f (times k u) ≡ pos 0
  times_none zero u e = additive.stays
  times_none (suc k) u e =
      let both = additive.adds (times k u) u in
      let before = times_none k u e in
      omega (arith, ints)

  sum_none : (us : List Step) (g : ℕ → ℕ) → ((j : ℕ) → f (step_at us j) ≡ pos 0) → f (sum_by us g) ≡ pos 0
  sum_none [] g none = additive.stays
  sum_none (u ∷ us) g none =
      let both = additive.adds (times (g 0) u) (sum_by us (λ i. g (suc i))) in
      let here = times_none (g 0) u (none 0) in
      let rest = sum_none us (λ i. g (suc i)) (λ j. none (suc j)) in
      omega (arith, ints)

  -- the value rises, or falls, by at least one each time
  rises : (k a : ℕ) (u : Step) → f u ≡ pos a → f (times k u) ≡ pos (k * a)
  rises zero a u e = additive.stays ∙ ap pos (let z : 0 ≡ zero * a = omega arith in z)
  rises (suc k) a u e =
      let both = additive.adds (times k u) u in
      let before = rises k a u e in
      let long : k * a + a ≡ suc k * a = omega arith in
      omega (arith, ints)

  falls : (k a : ℕ) (u : Step) → f u ≡ neg_ℤ (pos a) → f (times k u) ≡ neg_ℤ (pos (k * a))
  falls zero a u e =
      let none = additive.stays in
      let z : 0 ≡ zero * a = omega arith in
      omega (arith, ints)
  falls (suc k) a u e =
      let both = additive.adds (times k u) u in
      let before = falls k a u e in
      let long : k * a + a ≡ suc k * a = omega arith in
      omega (arith, ints)

  sign : (x : ℤ) → x ≢ pos 0 → ((a : ℕ) × (1 ≤ a) × (x ≡ pos a)) ⊎ ((a : ℕ) × (1 ≤ a) × (x ≡ neg_ℤ (pos a)))
  sign (pos zero) some = absurd (some refl)
  sign (pos (suc a)) some = inl (suc a, omega arith, refl)
  sign (negsuc a) some = inr (suc a, omega arith, omega (arith, ints))

  one_number : (m n : ℕ) (u : Step) → f u ≢ pos 0 → f (times m u) ≡ f (times n u) → m ≡ n
  one_number m n u some e =
      elim (sign (f u) some) [
        | inl up ↦
            let one = rises m up.0 u up.2 in
            let two = rises n up.0 u up.2 in
            same_product m n up.0 up.1 (omega (arith, ints))
        | inr down ↦
            let one = falls m down.0 u down.2 in
            let two = falls n down.0 u down.2 in
            same_product m n down.0 down.1 (omega (arith, ints))
      ]

module _ (f : Step → ℤ) (us : List Step) (i : ℕ) (out : SinglesOut f us i) where
  pub one_only : (m n : ℕ) → f (times m (step_at us i)) ≡ f (times n (step_at us i)) → m ≡ n
  one_only m n e = one_number f out.additive m n (step_at us i) out.some e

  pub its_number : (c : Step) → IsSumOf us c →
      (often : ℕ) × (f (times often (step_at us i)) ≡ f c) × IsSumOf (left_out us i) (rest_of us i c often)
  its_number c sum =
      let g = number_at sum.0 in
      let whole : sum_by us g ≡ c = sum_by-numbers us sum.0 ∙ sum.1 in
      let rest = sum_by (left_out us i) (skipped g i) in
      let both = out.additive.adds (times (g i) (step_at us i)) rest in
      let none = sum_none f out.additive (left_out us i) (skipped g i) out.others in
      let all : f (and_then (times (g i) (step_at us i)) rest) ≡ f c = ap f (sym (split_at us g i) ∙ whole) in
      (g i, omega (arith, ints), others_sum us g i c whole)

  pub from_number : (c : Step) →
      (often : ℕ) × (f (times often (step_at us i)) ≡ f c) × IsSumOf (left_out us i) (rest_of us i c often) →
      IsSumOf us c
  from_number c q = whole_sum us i q.0 c q.2
