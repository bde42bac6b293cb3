-- Sets that recur and move differently have passed each other in the end, and are apart for ever then.
use Rattle.std.proofs.Common.{◌≡◌, ℕ, zero, suc, ◌+◌, ◌*◌, ◌<◌, ◌≤◌, ℤ, pos, neg_ℤ, ◌+ℤ◌, ◌≤ℤ◌, ◌<ℤ◌, Bool, true, not}
use Rattle.std.proofs.Common.{sym, refl, ap}
use Rattle.std.proofs.Common.{subst, ◌∙◌, arith}
use Rattle.std.proofs.Math.Nat.{mul_comm}
use Rattle.std.proofs.lemmas.Int.{ints, by_lt_z}
use Rattle.life_model.specs.Cell.{Cell, origin, opposite, plus}
use Rattle.life_model.specs.Rule.{Rule}
use Rattle.life_model.specs.Generation.{Generation, contains}
use Rattle.life_model.specs.Evolution.{generation}
use Rattle.life_model.specs.Recurrence.{RecursBy}
use Rattle.life_model.proofs.Cells.{pair, plus-opposite_first}
use Rattle.life_model.proofs.Moves.{le_both}
use Rattle.life_model.proofs.Orbits.{far_enough}
use Rattle.life_objects.specs.Apart.{AreApartBefore, AreApartForEver}
use Rattle.life_objects.specs.Drift.{multiple_of}
use Rattle.life_objects.proofs.Distances.{AreApart-swap}
use Rattle.life_objects.proofs.Drifting.{apart_by_below, apart_by_right}
use Rattle.life_objects.proofs.Moving.{apart_by_period, RecursBy-times, in_unmoved, rounds_later}
use Rattle.life_objects.proofs.Times.{AreApartForEver-swap}
use Rattle.life_objects.specs.Decided.Tests.{meet}
use Rattle.life_objects.specs.Decided.Parts.{horizon, reach, period, stay_apart, corner_offset}
use Rattle.life_objects.proofs.DecidedLemmas.Reaching.{IsReached, reached_later}
use Rattle.life_objects.proofs.DecidedLemmas.Periods.{recurs}
use Rattle.life_objects.proofs.DecidedLemmas.Tests.{apart_by_test, each_below_by, each_below_tells, not_true, test_by_apart, true_not}

-- a coordinate of cells
record IsAxis (f : Cell → ℤ) : Type 0 where
  adds : (c d : Cell) → f (plus c d) ≡ f c +ℤ f d
  starts : f origin ≡ pos 0
  low : (r : ℕ) (c : Cell) → IsReached r c → neg_ℤ (pos r) ≤ℤ f c
  high : (r : ℕ) (c : Cell) → IsReached r c → f c ≤ℤ pos r

x_axis : IsAxis (λ c. c.0)
x_axis = record { adds = λ c d. refl; starts = refl; low = λ r c h. h.left; high = λ r c h. h.right }

y_axis : IsAxis (λ c. c.1)
y_axis = record { adds = λ c d. refl; starts = refl; low = λ r c h. h.above; high = λ r c h. h.below }

none_wider : (x y : ℤ) → x ≡ pos 0 → y ≡ pos 0 → (x +ℤ pos 0) ≤ℤ y
none_wider x y h k = omega (arith, ints)

one_wider : (x y u v s t : ℤ) (k : ℕ) → (x +ℤ pos k) ≤ℤ y → u <ℤ v → s ≡ x +ℤ u → t ≡ y +ℤ v →
    (s +ℤ pos (suc k)) ≤ℤ t
one_wider x y u v s t k h l a b = omega (arith, ints)

gap_sum : (x y c q s t : ℤ) (k a b m n : ℕ) → neg_ℤ (pos (m + a)) ≤ℤ x → y ≤ℤ pos (m + b) → c ≡ x +ℤ t → q ≡ y +ℤ s →
    (s +ℤ pos k) ≤ℤ t → a + b + 2 * n + 3 ≤ k → m < n → (q +ℤ pos 3) ≤ℤ c
gap_sum x y c q s t k a b m n low high e f wide enough h = omega (arith, ints)

module _ (f : Cell → ℤ) (axis : IsAxis f) where
  times_wider : (k : ℕ) (d e : Cell) → f e <ℤ f d → (f (multiple_of k e) +ℤ pos k) ≤ℤ f (multiple_of k d)
  times_wider zero d e h = none_wider (f origin) (f origin) axis.starts axis.starts
  times_wider (suc k) d e h =
      one_wider (f (multiple_of k e)) (f (multiple_of k d)) (f e) (f d) _ _ k (times_wider k d e h) h (axis.adds (multiple_of k e) e)
      (axis.adds (multiple_of k d) d)

  -- a cell that is moved by x to c lies at c less x on the axis
  before_move : (c x : Cell) → f c ≡ f (plus c (opposite x)) +ℤ f x
  before_move c x = ap f (sym (plus-opposite_first c x)) ∙ axis.adds (plus c (opposite x)) x

  -- the one that moves further has passed the other
  gap_then : (R : Rule) (n k : ℕ) (P Q : Generation) (d e : Cell) → RecursBy R P n d → RecursBy R Q n e →
      reach P + reach Q + 2 * n + 3 ≤ k → f e <ℤ f d → (m : ℕ) → m < n → (c q : Cell) →
      contains (generation R P (k * n + m)) c ≡ true → contains (generation R Q (k * n + m)) q ≡ true →
      (f q +ℤ pos 3) ≤ℤ f c
  gap_then R n k P Q d e r s enough faster m h c q in_p in_q =
      let back_c = plus c (opposite (multiple_of k d)) in
      let back_q = plus q (opposite (multiple_of k e)) in
      let was_c = in_unmoved (generation R P m) (multiple_of k d) c
      (ap (λ H. contains H c) (sym (rounds_later R P n d r k m)) ∙ in_p) in
      let was_q = in_unmoved (generation R Q m) (multiple_of k e) q
      (ap (λ H. contains H q) (sym (rounds_later R Q n e s k m)) ∙ in_q) in
      gap_sum (f back_c) (f back_q) (f c) (f q) (f (multiple_of k e)) (f (multiple_of k d)) k (reach P) (reach Q) m n
      (axis.low (m + reach P) back_c (reached_later R P m back_c was_c))
      (axis.high (m + reach Q) back_q (reached_later R Q m back_q was_q))
      (before_move c (multiple_of k d)) (before_move q (multiple_of k e)) (times_wider k d e faster) enough h

swapped_sum : (a b n k : ℕ) → a + b + 2 * n + 3 ≤ k → b + a + 2 * n + 3 ≤ k
swapped_sum a b n k h = omega arith

module _ (R : Rule) (n k : ℕ) where
  passed : (P Q : Generation) (d e : Cell) → RecursBy R P n d → RecursBy R Q n e →
      reach P + reach Q + 2 * n + 3 ≤ k → AreApartBefore R (k * n) P Q → e.0 <ℤ d.0 → AreApartForEver R P Q
  passed P Q d e r s enough far faster =
      apart_by_right R (k * n) n P Q d e r s far (omega (arith, ints))
      (λ m h. gap_then (λ c. c.0) x_axis R n k P Q d e r s enough faster m h)

  passed_down : (P Q : Generation) (d e : Cell) → RecursBy R P n d → RecursBy R Q n e →
      reach P + reach Q + 2 * n + 3 ≤ k → AreApartBefore R (k * n) P Q → e.1 <ℤ d.1 → AreApartForEver R P Q
  passed_down P Q d e r s enough far faster =
      apart_by_below R (k * n) n P Q d e r s far (omega (arith, ints))
      (λ m h. gap_then (λ c. c.1) y_axis R n k P Q d e r s enough faster m h)

-- k rounds are enough
module _ (R : Rule) (n k : ℕ) (P Q : Generation) (d e : Cell) (r : RecursBy R P n d) (s : RecursBy R Q n e)
    (enough : reach P + reach Q + 2 * n + 3 ≤ k) (far : AreApartBefore R (k * n) P Q) where
  back : AreApartBefore R (k * n) Q P
  back m h = AreApart-swap (generation R P m) (generation R Q m) (far m h)

  too : reach Q + reach P + 2 * n + 3 ≤ k
  too = swapped_sum (reach P) (reach Q) n k enough

  one_period : n ≤ k * n
  one_period =
      let some : 1 ≤ k = omega arith in
      let more = far_enough 0 n k some in
      omega arith

  of_one_velocity : d ≡ e → AreApartForEver R P Q
  of_one_velocity same =
      apart_by_period R n e P Q (subst (RecursBy R P n) same r) s
      (λ m h. far m (let whole = one_period in omega arith))

  pub apart_for_ever : AreApartForEver R P Q
  apart_for_ever =
      by_lt_z e.0 d.0 (λ h. passed R n k P Q d e r s enough far h) (λ x.
      by_lt_z d.0 e.0 (λ h. AreApartForEver-swap R Q P (passed R n k Q P e d s r too back h)) (λ y.
      by_lt_z e.1 d.1 (λ h. passed_down R n k P Q d e r s enough far h) (λ z.
      by_lt_z d.1 e.1 (λ h. AreApartForEver-swap R Q P (passed_down R n k Q P e d s r too back h)) (λ w.
      of_one_velocity (pair (le_both d.0 e.0 x y) (le_both d.1 e.1 z w))))))

module _ (R : Rule) (b : ℕ) (P Q : Generation) where
  abbrev apart_at : ℕ → Bool
  apart_at n = not (meet (generation R P n) (generation R Q n))

  abbrev p : ℕ
  p = period R b P

  abbrev q : ℕ
  q = period R b Q

  pub ever_by_test : 1 ≤ p → 1 ≤ q → stay_apart R b P Q ≡ true → AreApartForEver R P Q
  unfolding horizon
  ever_by_test h k test =
      let n : ℕ = p * q in
      apart_for_ever R n (reach P + reach Q + 2 * n + 3) P Q (multiple_of q (corner_offset R P p)) (multiple_of p (corner_offset R Q q))
      (subst (λ m. RecursBy R P m (multiple_of q (corner_offset R P p))) (mul_comm q p)
      (RecursBy-times R P p (corner_offset R P p) (recurs R P b h) q k))
      (RecursBy-times R Q q (corner_offset R Q q) (recurs R Q b k) p h)
      (omega arith)
      (λ m l. apart_by_test (generation R P m) (generation R Q m)
      (not_true (meet (generation R P m) (generation R Q m))
      (each_below_tells apart_at ((reach P + reach Q + 2 * n + 3) * n) m test l)))

  pub test_by_ever : AreApartForEver R P Q → stay_apart R b P Q ≡ true
  test_by_ever far =
      each_below_by apart_at (horizon R b P Q)
      (λ m h. true_not (meet (generation R P m) (generation R Q m))
      (test_by_apart (generation R P m) (generation R Q m) (far m)))
