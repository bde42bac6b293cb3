-- From when on two sets that recur have a gap between them.
use Rattle.std.proofs.Common.{◌≡◌, ℕ, ℤ, pos, ◌+ℤ◌, ◌≤ℤ◌, ◌+◌, ◌*◌, ◌/◌}
use Rattle.std.proofs.Common.{◌%◌, ◌<◌, ◌≤◌, true, sym, ap, subst, ◌∙◌, mod-lt, arith}
use Rattle.std.specs.Int.{int_max, int_min}
use Rattle.std.proofs.lemmas.Int.{ints}
use Rattle.std.proofs.Math.Nat.{div-lt_iff_lt-mul}
use Rattle.life_model.specs.Cell.{Cell, plus, opposite}
use Rattle.life_model.specs.Evolution.{generation}
use Rattle.life_model.specs.Generation.{Generation, contains}
use Rattle.life_model.specs.Recurrence.{RecursBy}
use Rattle.life_model.specs.Rule.{Rule}
use Rattle.life_model.proofs.Cells.{plus-opposite_first}
use Rattle.life_objects.specs.Drift.{multiple_of}
use Rattle.life_objects.proofs.Moving.{generation-wrapped, RecursBy-times, in_unmoved, rounds_later}
use Rattle.life_orbit.proofs.Shifts.{IsAxis, not_left, not_right, widens}

-- a cell that is moved by x to c lies at c less x on the axis
before_move : (f : Cell → ℤ) → IsAxis f → (c x : Cell) → f c ≡ f (plus c (opposite x)) +ℤ f x
before_move f axis c x = ap f (sym (plus-opposite_first c x)) ∙ axis.adds (plus c (opposite x)) x

low_sum : (l low z y x : ℤ) → l ≤ℤ y → low ≤ℤ z → x ≡ y +ℤ z → (l +ℤ low) ≤ℤ x
low_sum l low z y x h k e = omega (arith, ints)

high_sum : (h high z y x : ℤ) → y ≤ℤ h → z ≤ℤ high → x ≡ y +ℤ z → x ≤ℤ (h +ℤ high)
high_sum h high z y x j k e = omega (arith, ints)

gap_sum : (low high x y s t u v : ℤ) → ((high +ℤ t) +ℤ pos 3) ≤ℤ (low +ℤ s) → low ≤ℤ x → y ≤ℤ high →
    u ≡ x +ℤ s → v ≡ y +ℤ t → (v +ℤ pos 3) ≤ℤ u
gap_sum low high x y s t u v enough h k a b = omega (arith, ints)

gained : (low high s t : ℤ) (g : ℕ) → (high +ℤ pos 3) ≤ℤ (low +ℤ pos g) → s ≡ t +ℤ pos g →
    ((high +ℤ t) +ℤ pos 3) ≤ℤ (low +ℤ s)
gained low high s t g enough e = omega (arith, ints)

not_lost : (low high s t : ℤ) (g : ℕ) → ((high +ℤ pos 3) +ℤ pos g) ≤ℤ low → t ≡ s +ℤ pos g →
    ((high +ℤ t) +ℤ pos 3) ≤ℤ (low +ℤ s)
not_lost low high s t g enough e = omega (arith, ints)

early : (m a p : ℕ) → 1 ≤ p → m < a * p → m / p ≤ a
early m a p one h = let less : m / p < a = (div-lt_iff_lt-mul (let z : 0 < p = omega arith in z)).1 h in omega arith

module _ (f : Cell → ℤ) (axis : IsAxis f) (R : Rule) (P : Generation) (p : ℕ) (d : Cell) (r : RecursBy R P p d) where
  in_phase : (m : ℕ) (c : Cell) → contains (generation R P m) c ≡ true →
      contains (generation R P (m % p)) (plus c (opposite (multiple_of (m / p) d))) ≡ true
  in_phase m c h =
      in_unmoved (generation R P (m % p)) (multiple_of (m / p) d) c
      (ap (λ H. contains H c) (sym (generation-wrapped R P p d r m)) ∙ h)

  module _ (a m : ℕ) (h : m < a * p) (c : Cell) (in_it : contains (generation R P m) c ≡ true) where
    pub bound_left : (l : ℤ) → ((k : ℕ) (b : Cell) → k < p → contains (generation R P k) b ≡ true → l ≤ℤ f b) →
        (l +ℤ int_min (pos 0) (f (multiple_of a d))) ≤ℤ f c
    bound_left l each =
        low_sum l _ (f (multiple_of (m / p) d)) (f (plus c (opposite (multiple_of (m / p) d)))) (f c)
        (each (m % p) _ (mod-lt m r.later) (in_phase m c in_it)) (not_left f axis (m / p) a d (early m a p r.later h))
        (before_move f axis c (multiple_of (m / p) d))

    pub bound_right : (l : ℤ) → ((k : ℕ) (b : Cell) → k < p → contains (generation R P k) b ≡ true → f b ≤ℤ l) →
        f c ≤ℤ (l +ℤ int_max (pos 0) (f (multiple_of a d)))
    bound_right l each =
        high_sum l _ (f (multiple_of (m / p) d)) (f (plus c (opposite (multiple_of (m / p) d)))) (f c)
        (each (m % p) _ (mod-lt m r.later) (in_phase m c in_it)) (not_right f axis (m / p) a d (early m a p r.later h))
        (before_move f axis c (multiple_of (m / p) d))

module _ (f : Cell → ℤ) (axis : IsAxis f) (R : Rule) (P Q : Generation) (p q a b : ℕ) (d e : Cell)
    (r : RecursBy R P p d) (s : RecursBy R Q q e) (same : a * p ≡ b * q) (one_a : 1 ≤ a) (one_b : 1 ≤ b) where
  pub whole_first : RecursBy R P (a * p) (multiple_of a d)
  whole_first = RecursBy-times R P p d r a one_a

  pub whole_second : RecursBy R Q (a * p) (multiple_of b e)
  whole_second = subst (λ n. RecursBy R Q n (multiple_of b e)) (sym same) (RecursBy-times R Q q e s b one_b)

  module _ (l h : ℤ) (k : ℕ) (left : (n : ℕ) (c : Cell) → n < p → contains (generation R P n) c ≡ true → l ≤ℤ f c)
      (right : (n : ℕ) (c : Cell) → n < q → contains (generation R Q n) c ≡ true → f c ≤ℤ h)
      (m : ℕ) (within : m < a * p) (x y : Cell) (in_P : contains (generation R P (k * (a * p) + m)) x ≡ true)
      (in_Q : contains (generation R Q (k * (a * p) + m)) y ≡ true) where
    -- how far the two have moved before round k
    abbrev moved : ℤ
    moved = f (multiple_of k (multiple_of a d))

    abbrev other_moved : ℤ
    other_moved = f (multiple_of k (multiple_of b e))

    abbrev low : ℤ
    low = l +ℤ int_min (pos 0) (f (multiple_of a d))

    abbrev high : ℤ
    high = h +ℤ int_max (pos 0) (f (multiple_of b e))

    -- in round k each cell of P is as far past each of Q as the ends of their places are
    gap_in : ((high +ℤ other_moved) +ℤ pos 3) ≤ℤ (low +ℤ moved) → (f y +ℤ pos 3) ≤ℤ f x
    gap_in enough =
        let x_there = in_unmoved (generation R P m) (multiple_of k (multiple_of a d)) x
        (ap (λ H. contains H x) (sym (rounds_later R P (a * p) (multiple_of a d) whole_first k m)) ∙ in_P) in
        let y_there = in_unmoved (generation R Q m) (multiple_of k (multiple_of b e)) y
        (ap (λ H. contains H y) (sym (rounds_later R Q (a * p) (multiple_of b e) whole_second k m)) ∙ in_Q) in
        gap_sum low high (f (plus x (opposite (multiple_of k (multiple_of a d)))))
        (f (plus y (opposite (multiple_of k (multiple_of b e))))) moved other_moved (f x) (f y) enough
        (bound_left f axis R P p d r a m within _ x_there l left)
        (bound_right f axis R Q q e s b m (subst (λ z. m < z) same within) _ y_there h right)
        (before_move f axis x (multiple_of k (multiple_of a d))) (before_move f axis y (multiple_of k (multiple_of b e)))

    -- after k rounds in which P gains on Q
    pub gap_from : (v : ℕ) → f (multiple_of a d) ≡ f (multiple_of b e) +ℤ pos v →
        (high +ℤ pos 3) ≤ℤ (low +ℤ pos (k * v)) → (f y +ℤ pos 3) ≤ℤ f x
    gap_from v apart enough =
        gap_in (gained low high moved other_moved (k * v) enough
        (widens f axis k v (multiple_of a d) (multiple_of b e) apart))

    -- after k rounds in which Q gains on P
    pub gap_until : (v : ℕ) → f (multiple_of b e) ≡ f (multiple_of a d) +ℤ pos v →
        ((high +ℤ pos 3) +ℤ pos (k * v)) ≤ℤ low → (f y +ℤ pos 3) ≤ℤ f x
    gap_until v apart enough =
        gap_in (not_lost low high moved other_moved (k * v) enough
        (widens f axis k v (multiple_of b e) (multiple_of a d) apart))
