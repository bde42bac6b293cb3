-- Two sets that recur, some generations ago.
use Rattle.std.proofs.Common.{◌≡◌, ℕ, ℤ, pos, neg_ℤ, ◌+ℤ◌, ◌≤ℤ◌, ◌+◌, ◌-◌, ◌*◌, ◌/◌, ◌%◌, ◌<◌, ◌≤◌, true, inl, inr}
use Rattle.std.proofs.Common.{sym, refl, ap, subst, ◌∙◌, div-add-mod', mod-lt, mul-le-mul_left, mul-le-mul_right, arith}
use Rattle.std.specs.Int.{int_max, int_min}
use Rattle.std.proofs.lemmas.Bool.{cases_lt}
use Rattle.std.proofs.lemmas.Int.{ints, clamps}
use Rattle.std.proofs.Math.Nat.{div-lt_iff_lt-mul}
use Rattle.life_model.specs.Cell.{Cell, opposite, plus}
use Rattle.life_model.specs.Evolution.{generation}
use Rattle.life_model.specs.Generation.{Generation, contains, size}
use Rattle.life_model.specs.Recurrence.{RecursBy}
use Rattle.life_model.specs.Rule.{Rule}
use Rattle.life_model.specs.Symmetry.{translate_of}
use Rattle.life_model.proofs.Cells.{pair, plus-opposite}
use Rattle.life_model.proofs.Lists.{size-moved}
use Rattle.life_model.proofs.Recurrences.{generation-add}
use Rattle.life_model.proofs.Symmetries.{contains-moved}
use Rattle.life_objects.specs.Apart.{AreApart, AreApartForEver, AreNear}
use Rattle.life_objects.specs.Drift.{multiple_of}
use Rattle.life_objects.proofs.Distances.{AreApart-swap}
use Rattle.life_objects.proofs.Moving.{RecursBy-times, near_moved, rounds_later}
use Rattle.life_objects.proofs.Recurring.{RecursBy-later, moved_back}
use Rattle.life_orbit.specs.Course.{Course, IsCourse}
use Rattle.life_orbit.specs.Hulls.{AreFar, IsHullOf}
use Rattle.life_orbit.specs.Passing.{AreApartBetween, IsAheadBefore, IsPassed, IsPastAfter, IsYetAhead, columns, passing, rows}
use Rattle.life_orbit.specs.Past.{AreApartSince, IsPast}
use Rattle.life_orbit.specs.declared.hull.Hull.{Hull}
use Rattle.life_orbit.proofs.Clearances.{AreApartBy, apart_back, apart_forth}
use Rattle.life_orbit.proofs.Gaps.{bound_left, bound_right, whole_first, whole_second}
use Rattle.life_orbit.proofs.Reaching.{x_axis, y_axis}
use Rattle.life_orbit.proofs.Shifts.{IsAxis, widens}
use Rattle.life_orbit.proofs.Watching.{Holds, IsPair, IsPair-swap, course_recurs, further, lane_of, near_across, near_down, no_gap, watch_of}

-- ---- a phase, moved back

-- P becomes the set in b generations, and after k more it stands again
pub moved_to_before : (R : Rule) (P : Generation) (p : ℕ) (d : Cell) → RecursBy R P p d → (b k m : ℕ) (set : Generation) →
    b + k ≡ m * p → 1 ≤ m → generation R P b ≡ set → translate_of (generation R set k) (opposite (multiple_of m d)) ≡ P
moved_to_before R P p d r b k m set e one end =
    ap (λ H. translate_of (generation R H k) (opposite (multiple_of m d))) (sym end)
    ∙ ap (λ H. translate_of H (opposite (multiple_of m d)))
    (generation-add R P b k ∙ ap (generation R P) e ∙ (RecursBy-times R P p d r m one).again)
    ∙ moved_back P (multiple_of m d)

-- how many whole periods reach back n generations, and how far on it is then
pub rounds_back : (n p : ℕ) → 1 ≤ n → 1 ≤ p → n + ((p - 1) - (n - 1) % p) ≡ ((n - 1) / p + 1) * p
rounds_back n p one some =
    let parts = div-add-mod' (n - 1) p in
    let rest : (n - 1) % p < p = mod-lt (n - 1) some in
    omega arith

module _ (o : Course) (P : Generation) (ago : ℕ) (one : 1 ≤ ago) (is : IsCourse o) (past : IsPast ago o P) where
  -- what it was is a phase, moved back
  pub phase_then : (by : Cell) → by ≡ multiple_of ((ago - 1) / o.period + 1) o.displacement →
      P ≡ translate_of (generation o.rule o.set ((o.period - 1) - (ago - 1) % o.period)) (opposite by)
  phase_then by e =
      sym ((λ i. translate_of (generation o.rule o.set ((o.period - 1) - (ago - 1) % o.period)) (opposite (e i)))
      ∙ moved_to_before o.rule P o.period o.displacement past.recurs ago ((o.period - 1) - (ago - 1) % o.period)
      ((ago - 1) / o.period + 1) o.set (rounds_back ago o.period one is.recurs.later) (omega arith) past.becomes)

phase_is_early : (p n : ℕ) → 1 ≤ p → (p - 1) - n % p < p
phase_is_early p n one = omega arith

module _ (o w : Course) (rule : o.rule ≡ w.rule) (is_o : IsCourse o) (is_w : IsCourse w) (ago : ℕ) (one : 1 ≤ ago)
    (P Q : Generation) (past : IsPast ago o P) (other_past : IsPast ago w Q) (s t by : Cell)
    (s_is : s ≡ multiple_of ((ago - 1) / o.period + 1) o.displacement)
    (t_is : t ≡ multiple_of ((ago - 1) / w.period + 1) w.displacement)
    (by_is : by ≡ plus (opposite s) (opposite (opposite t))) where
  abbrev pub here : Generation
  here = generation o.rule o.set ((o.period - 1) - (ago - 1) % o.period)

  abbrev pub there : Generation
  there = generation w.rule w.set ((w.period - 1) - (ago - 1) % w.period)

  pub apart_by_phases_ago : AreApartBy here by there → AreApart P Q
  apart_by_phases_ago apart =
      subst (λ H. AreApart H Q) (sym (phase_then o P ago one is_o past s s_is))
      (subst (AreApart (translate_of here (opposite s))) (sym (phase_then w Q ago one is_w other_past t t_is))
      (apart_forth here there (opposite s) (opposite t) (subst (λ z. AreApartBy here z there) by_is apart)))

  pub phases_apart_ago : AreApart P Q → AreApartBy here by there
  phases_apart_ago apart =
      subst (λ z. AreApartBy here z there) (sym by_is)
      (apart_back here there (opposite s) (opposite t)
      (subst (λ H. AreApart (translate_of here (opposite s)) H) (phase_then w Q ago one is_w other_past t t_is)
      (subst (λ H. AreApart H Q) (phase_then o P ago one is_o past s s_is) apart)))

  pub apart_by_hulls_ago : (g h : Hull) → IsHullOf g o → IsHullOf h w → AreFar g by h → AreApart P Q
  apart_by_hulls_ago g h in_g in_h far =
      apart_by_phases_ago (λ c d in_P in_Q near.
      far c d (in_g _ c (phase_is_early o.period (ago - 1) is_o.recurs.later) in_P)
      (in_h _ d (phase_is_early w.period (ago - 1) is_w.recurs.later) in_Q) near)

-- ---- in which round

gained_back : (l h A B S T x y : ℤ) (m n o gain : ℕ) → (l +ℤ int_min (pos 0) A) ≤ℤ (x +ℤ S) →
    (y +ℤ T) ≤ℤ (h +ℤ int_max (pos 0) B) → T ≡ S +ℤ pos m → m ≡ o + gain → n ≤ o → B ≡ A +ℤ pos gain →
    ((h +ℤ int_max (pos 0) (neg_ℤ B)) +ℤ pos 3) ≤ℤ ((l +ℤ int_min (pos 0) (neg_ℤ A)) +ℤ pos n) → (y +ℤ pos 3) ≤ℤ x
gained_back l h A B S T x y m n o gain low high wider more enough apart gap = omega (arith, ints, clamps)

not_lost_back : (l h A B S T x y : ℤ) (m o loss : ℕ) → (l +ℤ int_min (pos 0) A) ≤ℤ (x +ℤ S) →
    (y +ℤ T) ≤ℤ (h +ℤ int_max (pos 0) B) → S ≡ T +ℤ pos m → m ≡ o + loss → A ≡ B +ℤ pos loss →
    (((h +ℤ int_max (pos 0) (neg_ℤ B)) +ℤ pos 3) +ℤ pos o) ≤ℤ (l +ℤ int_min (pos 0) (neg_ℤ A)) → (y +ℤ pos 3) ≤ℤ x
not_lost_back l h A B S T x y m o loss low high wider more apart gap = omega (arith, ints, clamps)

turned_gain : (A B : ℤ) (gain : ℕ) → neg_ℤ A ≡ neg_ℤ B +ℤ pos gain → B ≡ A +ℤ pos gain
turned_gain A B gain e = omega (arith, ints)

-- a set that is P at some age, t generations after it was E
module _ (R : Rule) (P E : Generation) (n : ℕ) (D : Cell) (again : RecursBy R E n D) (age : ℕ)
    (becomes : generation R E age ≡ P) where
  later_by_rounds : (t k rest : ℕ) → rest < n → t + ((k * n + rest) + 1) ≡ age → (x : Cell) →
      contains (generation R E t) x ≡ true →
      contains (generation R P ((n - 1) - rest)) (plus x (multiple_of (k + 1) D)) ≡ true
  later_by_rounds t k rest within then x in_E =
      let e = multiple_of (k + 1) D in
      ap (λ H. contains H (plus x e))
      (ap (λ H. generation R H ((n - 1) - rest)) (sym becomes) ∙ generation-add R E age ((n - 1) - rest)
      ∙ ap (generation R E) (let z : age + ((n - 1) - rest) ≡ (k + 1) * n + t = omega arith in z)
      ∙ rounds_later R E n D again (k + 1) t)
      ∙ contains-moved (generation R E t) e (plus x e) ∙ ap (contains (generation R E t)) (plus-opposite x e) ∙ in_E

-- two sets that are P and Q at some age and began as E and F
pub record ArePasts (R : Rule) (P Q E F : Generation) (p q a b : ℕ) (d e : Cell) (age : ℕ) : Type 0 where
  pub now : IsPair R P Q p q a b d e
  pub early : IsPair R E F p q a b d e
  pub first : generation R E age ≡ P
  pub second : generation R F age ≡ Q

ArePasts-swap : (R : Rule) (P Q E F : Generation) (p q a b : ℕ) (d e : Cell) (age : ℕ) →
    ArePasts R P Q E F p q a b d e age → ArePasts R Q P F E q p b a e d age
ArePasts-swap R P Q E F p q a b d e age pasts = record {
  now = IsPair-swap R P Q p q a b d e pasts.now;
  early = IsPair-swap R E F p q a b d e pasts.early;
  first = pasts.second;
  second = pasts.first;
}

module _ (f : Cell → ℤ) (axis : IsAxis f) (close : (c d : Cell) → AreNear c d → f c ≤ℤ (f d +ℤ pos 2)) (R : Rule)
    (P Q E F : Generation) (p q a b : ℕ) (d e : Cell) (age : ℕ) (pasts : ArePasts R P Q E F p q a b d e age)
    (l h r s : ℤ)
    (left : (n : ℕ) (c : Cell) → n < p → contains (generation R P n) c ≡ true → l ≤ℤ f c)
    (right : (n : ℕ) (c : Cell) → n < q → contains (generation R Q n) c ≡ true → f c ≤ℤ h) (k t : ℕ)
    (before : t < age) where
  abbrev round : ℕ
  round = a * p

  abbrev ago : ℕ
  ago = (age - t) - 1

  abbrev by : Cell
  by = multiple_of a d

  abbrev other_by : Cell
  other_by = multiple_of b e

  again : RecursBy R E round by
  again =
      whole_first f axis R E F p q a b d e pasts.early.first pasts.early.second pasts.early.together pasts.early.some
      pasts.early.others

  other_again : RecursBy R F round other_by
  other_again =
      whole_second f axis R E F p q a b d e pasts.early.first pasts.early.second pasts.early.together pasts.early.some
      pasts.early.others

  one : 1 ≤ round
  one = again.later

  within : ago % round < round
  within = mod-lt ago one

  then : t + (((ago / round) * round + ago % round) + 1) ≡ age
  then = let parts = div-add-mod' ago round in omega arith

  module _ (x y : Cell) (in_E : contains (generation R E t) x ≡ true) (in_F : contains (generation R F t) y ≡ true) where
    low : (l +ℤ int_min (pos 0) (f by)) ≤ℤ (f x +ℤ f (multiple_of (ago / round + 1) by))
    low =
        subst (λ z. (l +ℤ int_min (pos 0) (f by)) ≤ℤ z) (axis.adds x (multiple_of (ago / round + 1) by))
        (bound_left f axis R P p d pasts.now.first a ((round - 1) - ago % round)
        (let z : (round - 1) - ago % round < round = (let w = one in omega arith) in z)
        (plus x (multiple_of (ago / round + 1) by))
        (later_by_rounds R P E round by again age pasts.first t (ago / round) (ago % round) within then x in_E) l left)

    high : (f y +ℤ f (multiple_of (ago / round + 1) other_by)) ≤ℤ (h +ℤ int_max (pos 0) (f other_by))
    high =
        subst (λ z. z ≤ℤ (h +ℤ int_max (pos 0) (f other_by))) (axis.adds y (multiple_of (ago / round + 1) other_by))
        (bound_right f axis R Q q e pasts.now.second b ((round - 1) - ago % round)
        (subst (λ z. (round - 1) - ago % round < z) pasts.now.together
        (let z : (round - 1) - ago % round < round = (let w = one in omega arith) in z))
        (plus y (multiple_of (ago / round + 1) other_by))
        (later_by_rounds R Q F round other_by other_again age pasts.second t (ago / round) (ago % round) within then y in_F)
        h right)

    gap_passed : IsPassed (passing (lane_of l r (neg_ℤ (f by))) (lane_of s h (neg_ℤ (f other_by))) k) →
        k ≤ ago / round → (f y +ℤ pos 3) ≤ℤ f x
    gap_passed passed late =
        let v = further (neg_ℤ (f by)) (neg_ℤ (f other_by)) passed.order in
        let gain = turned_gain (f by) (f other_by) v.0 v.1 in
        gained_back l h (f by) (f other_by) _ _ (f x) (f y) ((ago / round + 1) * v.0) (k * v.0) ((ago / round) * v.0) v.0
        low high (widens f axis (ago / round + 1) v.0 other_by by gain)
        (let z : (ago / round + 1) * v.0 ≡ (ago / round) * v.0 + v.0 = omega arith in z)
        (mul-le-mul_right v.0 late) gain (passed.passes v.0 v.1)

    gap_ahead : IsYetAhead (passing (lane_of l r (neg_ℤ (f by))) (lane_of s h (neg_ℤ (f other_by))) k) →
        ago / round < k → (f y +ℤ pos 3) ≤ℤ f x
    gap_ahead ahead early =
        let v = further (neg_ℤ (f other_by)) (neg_ℤ (f by)) ahead.order in
        let loss = turned_gain (f other_by) (f by) v.0 v.1 in
        not_lost_back l h (f by) (f other_by) _ _ (f x) (f y) ((ago / round + 1) * v.0) ((ago / round) * v.0) v.0
        low high (widens f axis (ago / round + 1) v.0 by other_by loss)
        (let z : (ago / round + 1) * v.0 ≡ (ago / round) * v.0 + v.0 = omega arith in z)
        loss (ahead.ahead v.0 (ago / round) v.1 early)

  pub apart_passed : IsPassed (passing (lane_of l r (neg_ℤ (f by))) (lane_of s h (neg_ℤ (f other_by))) k) →
      k * round ≤ ago → AreApart (generation R E t) (generation R F t)
  apart_passed passed late x y in_E in_F near =
      let rounds : k ≤ ago / round = elim (cases_lt (ago / round) k) [
        | inl less ↦ let soon = (div-lt_iff_lt-mul one).0 less in absurd (omega arith)
        | inr more ↦ more
      ] in
      no_gap (f x) (f y) (gap_passed x y in_E in_F passed rounds) (close x y near)

  pub apart_ahead : IsYetAhead (passing (lane_of l r (neg_ℤ (f by))) (lane_of s h (neg_ℤ (f other_by))) k) →
      ago < k * round → AreApart (generation R E t) (generation R F t)
  apart_ahead ahead soon x y in_E in_F near =
      no_gap (f x) (f y) (gap_ahead x y in_E in_F ahead ((div-lt_iff_lt-mul one).1 soon)) (close x y near)

-- ---- both ways along both axes

module _ (R : Rule) (P Q E F : Generation) (p q a b : ℕ) (d e : Cell) (age : ℕ)
    (pasts : ArePasts R P Q E F p q a b d e age) (g h : Hull) (in_g : Holds g R P p) (in_h : Holds h R Q q)
    (k t : ℕ) (before : t < age) where
  passed_right : IsPassed (passing (columns g (opposite (multiple_of a d))) (columns h (opposite (multiple_of b e))) k) →
      k * (a * p) ≤ (age - t) - 1 → AreApart (generation R E t) (generation R F t)
  passed_right =
      apart_passed (λ c. c.0) x_axis near_across R P Q E F p q a b d e age pasts g.left h.right g.right h.left
      (λ n c early at. (in_g n c early at).left) (λ n c early at. (in_h n c early at).right) k t before

  passed_below : IsPassed (passing (rows g (opposite (multiple_of a d))) (rows h (opposite (multiple_of b e))) k) →
      k * (a * p) ≤ (age - t) - 1 → AreApart (generation R E t) (generation R F t)
  passed_below =
      apart_passed (λ c. c.1) y_axis near_down R P Q E F p q a b d e age pasts g.top h.bottom g.bottom h.top
      (λ n c early at. (in_g n c early at).above) (λ n c early at. (in_h n c early at).below) k t before

  ahead_right : IsYetAhead (passing (columns g (opposite (multiple_of a d))) (columns h (opposite (multiple_of b e))) k) →
      (age - t) - 1 < k * (a * p) → AreApart (generation R E t) (generation R F t)
  ahead_right =
      apart_ahead (λ c. c.0) x_axis near_across R P Q E F p q a b d e age pasts g.left h.right g.right h.left
      (λ n c early at. (in_g n c early at).left) (λ n c early at. (in_h n c early at).right) k t before

  ahead_below : IsYetAhead (passing (rows g (opposite (multiple_of a d))) (rows h (opposite (multiple_of b e))) k) →
      (age - t) - 1 < k * (a * p) → AreApart (generation R E t) (generation R F t)
  ahead_below =
      apart_ahead (λ c. c.1) y_axis near_down R P Q E F p q a b d e age pasts g.top h.bottom g.bottom h.top
      (λ n c early at. (in_g n c early at).above) (λ n c early at. (in_h n c early at).below) k t before

module _ (R : Rule) (P Q E F : Generation) (p q a b : ℕ) (d e : Cell) (age : ℕ)
    (pasts : ArePasts R P Q E F p q a b d e age) (g h : Hull) (in_g : Holds g R P p) (in_h : Holds h R Q q)
    (k t : ℕ) (before : t < age) where
  others : ArePasts R Q P F E q p b a e d age
  others = ArePasts-swap R P Q E F p q a b d e age pasts

  turned_le : k * (a * p) ≤ (age - t) - 1 → k * (b * q) ≤ (age - t) - 1
  turned_le = subst (λ n. k * n ≤ (age - t) - 1) pasts.now.together

  turned_lt : (age - t) - 1 < k * (a * p) → (age - t) - 1 < k * (b * q)
  turned_lt = subst (λ n. (age - t) - 1 < k * n) pasts.now.together

  other_way : AreApart (generation R F t) (generation R E t) → AreApart (generation R E t) (generation R F t)
  other_way = AreApart-swap (generation R F t) (generation R E t)

  -- before the last of the rounds in which they can have been near
  pub apart_by_past : IsPastAfter (watch_of g (opposite (multiple_of a d)) h (opposite (multiple_of b e))) k →
      (opposite (multiple_of a d) ≡ opposite (multiple_of b e) → ⊥) → k * (a * p) ≤ (age - t) - 1 →
      AreApart (generation R E t) (generation R F t)
  apart_by_past past differ late =
      elim past [
        | inl across ↦ elim across [
          | inl right ↦ passed_right R P Q E F p q a b d e age pasts g h in_g in_h k t before right late
          | inr left ↦ other_way (passed_right R Q P F E q p b a e d age others h g in_h in_g k t before left (turned_le late))
        ]
        | inr more ↦ elim more [
          | inl down ↦ elim down [
            | inl below ↦ passed_below R P Q E F p q a b d e age pasts g h in_g in_h k t before below late
            | inr above ↦ other_way
                (passed_below R Q P F E q p b a e d age others h g in_h in_g k t before above (turned_le late))
          ]
          | inr still ↦ absurd (differ still.0)
        ]
      ]

  -- after the first of them
  pub apart_by_ahead : IsAheadBefore (watch_of g (opposite (multiple_of a d)) h (opposite (multiple_of b e))) k →
      (age - t) - 1 < k * (a * p) → AreApart (generation R E t) (generation R F t)
  apart_by_ahead ahead soon =
      elim ahead [
        | inl across ↦ elim across [
          | inl right ↦ ahead_right R P Q E F p q a b d e age pasts g h in_g in_h k t before right soon
          | inr left ↦ other_way (ahead_right R Q P F E q p b a e d age others h g in_h in_g k t before left (turned_lt soon))
        ]
        | inr more ↦ elim more [
          | inl down ↦ elim down [
            | inl below ↦ ahead_below R P Q E F p q a b d e age pasts g h in_g in_h k t before below soon
            | inr above ↦ other_way
                (ahead_below R Q P F E q p b a e d age others h g in_h in_g k t before above (turned_lt soon))
          ]
          | inr none ↦
              let w : (age - t) - 1 < 0 * (a * p) = subst (λ z. (age - t) - 1 < z * (a * p)) none soon in
              absurd (omega arith)
        ]
      ]

-- ---- sets of one velocity

module _ (R : Rule) (E F : Generation) (n : ℕ) (d : Cell) (first : RecursBy R E n d) (second : RecursBy R F n d)
    (age : ℕ) where
  round_after : (H : Generation) → RecursBy R H n d → (t : ℕ) →
      generation R (generation R H age) (age * n + t - age) ≡ translate_of (generation R H t) (multiple_of age d)
  round_after H again t =
      let one : 1 ≤ n = again.later in
      let far : age * 1 ≤ age * n = mul-le-mul_left age one in
      generation-add R H age (age * n + t - age)
      ∙ ap (generation R H) (let z : age + (age * n + t - age) ≡ age * n + t = omega arith in z)
      ∙ rounds_later R H n d again age t

  still_apart : AreApartForEver R (generation R E age) (generation R F age) → AreApartForEver R E F
  still_apart apart t c x in_E in_F near =
      let e = multiple_of age d in
      apart (age * n + t - age) (plus c e) (plus x e)
      (ap (λ H. contains H (plus c e)) (round_after E first t) ∙ contains-moved (generation R E t) e (plus c e)
      ∙ ap (contains (generation R E t)) (plus-opposite c e) ∙ in_E)
      (ap (λ H. contains H (plus x e)) (round_after F second t) ∙ contains-moved (generation R F t) e (plus x e)
      ∙ ap (contains (generation R F t)) (plus-opposite x e) ∙ in_F)
      (near_moved c x e near)

module _ (R : Rule) (P Q E F : Generation) (p q a b : ℕ) (d e : Cell) (age : ℕ)
    (pasts : ArePasts R P Q E F p q a b d e age) where
  pub apart_at_one_velocity : multiple_of a d ≡ multiple_of b e → AreApartForEver R P Q → AreApartForEver R E F
  apart_at_one_velocity same apart =
      still_apart R E F (a * p) (multiple_of a d)
      (whole_first (λ c. c.0) x_axis R E F p q a b d e pasts.early.first pasts.early.second pasts.early.together
      pasts.early.some pasts.early.others)
      (subst (RecursBy R F (a * p)) (sym same)
      (whole_second (λ c. c.0) x_axis R E F p q a b d e pasts.early.first pasts.early.second pasts.early.together
      pasts.early.some pasts.early.others))
      age
      (subst (λ H. AreApartForEver R H (generation R F age)) (sym pasts.first)
      (subst (AreApartForEver R P) (sym pasts.second) apart))

pub unturned : (c d : Cell) → opposite c ≡ opposite d → c ≡ d
unturned c d same =
    let across = ap (λ (x : Cell). x.0) same in
    let down = ap (λ (x : Cell). x.1) same in
    pair (omega (arith, ints)) (omega (arith, ints))

-- ---- by the courses of the sets

past_recurs : (o : Course) (R : Rule) (P : Generation) (n p : ℕ) (d : Cell) → R ≡ o.rule → p ≡ o.period →
    d ≡ o.displacement → IsPast n o P → RecursBy R P p d
past_recurs o R P n p d rule period displacement past =
    subst (λ m. RecursBy R P m d) (sym period)
    (subst (λ x. RecursBy R P o.period x) (sym displacement)
    (subst (λ S. RecursBy S P o.period o.displacement) (sym rule) past.recurs))

pub pasts_of : (o w : Course) (P Q : Generation) (p q a b : ℕ) (d e : Cell) (age : ℕ) → o.rule ≡ w.rule → p ≡ o.period →
    q ≡ w.period → d ≡ o.displacement → e ≡ w.displacement → IsCourse o → IsCourse w → a * p ≡ b * q → 1 ≤ a → 1 ≤ b →
    IsPast age o P → IsPast age w Q → ArePasts o.rule o.set w.set P Q p q a b d e age
pasts_of o w P Q p q a b d e age rule period other_period displacement other_displacement is_o is_w together one_a one_b past
    other_past = record {
      now = record {
        first = course_recurs o o.rule p d refl period displacement is_o;
        second = course_recurs w o.rule q e rule other_period other_displacement is_w;
        together = together;
        some = one_a;
        others = one_b;
      };
      early = record {
        first = past_recurs o o.rule P age p d refl period displacement past;
        second = past_recurs w o.rule Q age q e rule other_period other_displacement other_past;
        together = together;
        some = one_a;
        others = one_b;
      };
      first = past.becomes;
      second = ap (λ S. generation S Q age) rule ∙ other_past.becomes;
    }

-- ---- since when

module _ (R : Rule) (P Q : Generation) where
  pub since_start : AreApartForEver R P Q → AreApartSince R P Q 0
  since_start apart = record {
    apart = λ n.
        subst (λ H. AreApart H (generation R (generation R Q 0) n)) (sym (generation-add R P 0 n))
        (subst (AreApart (generation R P (0 + n))) (sym (generation-add R Q 0 n)) (apart (0 + n)));
    first = λ n far. omega arith;
  }

  apart_from : (t : ℕ) → ((n : ℕ) → t ≤ n → AreApart (generation R P n) (generation R Q n)) →
      AreApartForEver R (generation R P t) (generation R Q t)
  apart_from t each n =
      subst (λ H. AreApart H (generation R (generation R Q t) n)) (sym (generation-add R P t n))
      (subst (AreApart (generation R P (t + n))) (sym (generation-add R Q t n)) (each (t + n) (omega arith)))

  pub since_last : (t : ℕ) → ((n : ℕ) → t + 1 ≤ n → AreApart (generation R P n) (generation R Q n)) →
      (AreApart (generation R P t) (generation R Q t) → ⊥) → AreApartSince R P Q (t + 1)
  since_last t each near = record {
    apart = apart_from (t + 1) each;
    first = λ n far.
        elim (cases_lt t n) [
          | inl later ↦ (let h : t + 1 ≤ n = omega arith in h)
          | inr early ↦ absurd (near
              (subst (λ H. AreApart H (generation R Q t))
              (generation-add R P n (t - n) ∙ ap (generation R P) (let e : n + (t - n) ≡ t = omega arith in e))
              (subst (AreApart (generation R (generation R P n) (t - n)))
              (generation-add R Q n (t - n) ∙ ap (generation R Q) (let e : n + (t - n) ≡ t = omega arith in e))
              (far (t - n)))))
        ];
  }

-- from some age on
module _ (o w : Course) (rule : o.rule ≡ w.rule) (apart : AreApartForEver o.rule o.set w.set) (age : ℕ) (P Q : Generation)
    (past : IsPast age o P) (other_past : IsPast age w Q) where
  pub apart_later : (t : ℕ) → age ≤ t → AreApart (generation o.rule P t) (generation o.rule Q t)
  apart_later t late =
      let e : age + (t - age) ≡ t = omega arith in
      subst (λ H. AreApart H (generation o.rule Q t))
      (sym (ap (λ H. generation o.rule H (t - age)) past.becomes) ∙ generation-add o.rule P age (t - age) ∙ ap (generation o.rule P) e)
      (subst (AreApart (generation o.rule o.set (t - age)))
      (sym (ap (λ H. generation o.rule H (t - age)) (ap (λ S. generation S Q age) rule ∙ other_past.becomes))
      ∙ generation-add o.rule Q age (t - age) ∙ ap (generation o.rule Q) e)
      (apart (t - age)))

-- what was `ago` generations ago, by what was at first
pub past_then : (o : Course) (age ago : ℕ) (P : Generation) → ago ≤ age → IsPast age o P →
    IsPast ago o (generation o.rule P (age - ago))
past_then o age ago P le past = record {
  recurs = RecursBy-later o.rule P o.period o.displacement past.recurs (age - ago);
  becomes =
      generation-add o.rule P (age - ago) ago
      ∙ ap (generation o.rule P) (let e : (age - ago) + ago ≡ age = omega arith in e) ∙ past.becomes;
}

-- apart from some time on, by two stretches of time
pub apart_on : (R : Rule) (P Q : Generation) (start middle age : ℕ) → AreApartBetween R start middle P Q →
    AreApartBetween R middle age P Q → ((t : ℕ) → age ≤ t → AreApart (generation R P t) (generation R Q t)) →
    (n : ℕ) → start ≤ n → AreApart (generation R P n) (generation R Q n)
apart_on R P Q start middle age first second later n from =
    elim (cases_lt n middle) [
      | inl early ↦ first n from early
      | inr late ↦ elim (cases_lt n age) [
        | inl before ↦ second n late before
        | inr after ↦ later n after
      ]
    ]

pub between_back : (R : Rule) (P Q : Generation) (t high : ℕ) → AreApartBetween R (t + 1) high P Q →
    AreApart (generation R P t) (generation R Q t) → AreApartBetween R t high P Q
between_back R P Q t high so_far here n late before =
    elim (cases_lt t n) [
      | inl more ↦ so_far n (let h : t + 1 ≤ n = omega arith in h) before
      | inr most ↦ subst (λ m. AreApart (generation R P m) (generation R Q m)) (let e : t ≡ n = omega arith in e) here
    ]

pub size_then : (o : Course) (P : Generation) (ago : ℕ) → 1 ≤ ago → IsCourse o → IsPast ago o P →
    size (generation o.rule o.set ((o.period - 1) - (ago - 1) % o.period)) ≡ size P
size_then o P ago one is past =
    sym (ap size (phase_then o P ago one is past (multiple_of ((ago - 1) / o.period + 1) o.displacement) refl)
    ∙ size-moved (generation o.rule o.set ((o.period - 1) - (ago - 1) % o.period))
    (opposite (multiple_of ((ago - 1) / o.period + 1) o.displacement)))
