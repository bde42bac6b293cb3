-- When two sets that recur have to be watched.
use mir.Syntax.{w32, w128}
use mir.Val.{SFits, of_z, to_z}
use Rattle.std.proofs.Common.{◌≡◌, ℕ, ℤ, pos, negsuc, ◌+ℤ◌, ◌-ℤ◌, ◌≤ℤ◌, ◌+◌, ◌*◌, ◌/◌, ◌%◌, ◌<◌, ◌≤◌}
use Rattle.std.proofs.Common.{min, max, true, inl, inr, sym, refl, ap, subst, mod-lt, arith}
use Rattle.std.proofs.lemmas.Bool.{cases_lt}
use Rattle.std.proofs.lemmas.Int.{ints, to_z-of_z}
use Rattle.std.proofs.Math.Nat.{div-lt_iff_lt-mul}
use Rattle.life_model.specs.Cell.{Cell}
use Rattle.life_model.specs.Evolution.{generation}
use Rattle.life_model.specs.Generation.{Generation, contains}
use Rattle.life_model.specs.Recurrence.{RecursBy}
use Rattle.life_model.specs.Rule.{Rule}
use Rattle.life_objects.specs.Apart.{AreApartBefore, AreApartForEver, AreNear}
use Rattle.life_objects.specs.Drift.{multiple_of}
use Rattle.life_objects.proofs.Distances.{AreApart-swap}
use Rattle.life_objects.proofs.Drifting.{apart_by_below, apart_by_right}
use Rattle.life_objects.proofs.Moving.{apart_by_period}
use Rattle.life_objects.proofs.Times.{AreApartForEver-swap}
use Rattle.life_orbit.specs.Course.{Course, IsCourse}
use Rattle.life_orbit.specs.Hulls.{IsHullOf, IsInHull}
use Rattle.life_orbit.specs.Passing.{AreApartBetween, IsAheadBefore, IsOneAhead, IsOnePast}
use Rattle.life_orbit.specs.Passing.{IsPassed, IsPastAfter, IsYetAhead, Watch, columns, passing, rows}
use Rattle.life_orbit.specs.declared.hull.Hull.{Hull}
use Rattle.life_orbit.specs.declared.lanes.Lane.{Lane}
use Rattle.life_orbit.proofs.Gaps.{gap_from, gap_until, whole_first, whole_second}
use Rattle.life_orbit.proofs.Reaching.{x_axis, y_axis}
use Rattle.life_orbit.proofs.Shifts.{IsAxis}

-- ---- sums

pub passed_at_once : (low high : ℤ) (gain : ℕ) → (high +ℤ pos 3) ≤ℤ low → (high +ℤ pos 3) ≤ℤ (low +ℤ pos (0 * gain))
passed_at_once low high gain h = omega (arith, ints)

pub passed_later : (low high forward back : ℤ) (missing gained rounds gain : ℕ) →
    (high +ℤ pos 2) ≡ low +ℤ pos missing → forward ≡ back +ℤ pos gained → missing < rounds * gained →
    forward ≡ back +ℤ pos gain → (high +ℤ pos 3) ≤ℤ (low +ℤ pos (rounds * gain))
passed_later low high forward back missing gained rounds gain a b enough e =
    let same : gained ≡ gain = omega (arith, ints) in
    let more : missing < rounds * gain = subst (λ g. missing < rounds * g) same enough in
    omega (arith, ints)

pub still_ahead : (low high forward back : ℤ) (room lost loss k : ℕ) →
    low ≡ (high +ℤ pos 3) +ℤ pos room → forward ≡ back +ℤ pos lost → k * lost ≤ room →
    forward ≡ back +ℤ pos loss → ((high +ℤ pos 3) +ℤ pos (k * loss)) ≤ℤ low
still_ahead low high forward back room lost loss k a b enough e =
    let same : lost ≡ loss = omega (arith, ints) in
    let less : k * loss ≤ room = subst (λ g. k * g ≤ room) same enough in
    omega (arith, ints)

pub further : (x y : ℤ) → y ≤ℤ x → (v : ℕ) × (x ≡ y +ℤ pos v)
further x y h =
    elim (x -ℤ y) as (λ z. x -ℤ y ≡ z → (v : ℕ) × (x ≡ y +ℤ pos v)) [
      | pos n ↦ λ e. (n, omega (arith, ints))
      | negsuc n ↦ λ e. absurd (omega (arith, ints))
    ] refl

-- ---- a set that recurs, by other names

pub course_recurs : (o : Course) (R : Rule) (p : ℕ) (d : Cell) → R ≡ o.rule → p ≡ o.period → d ≡ o.displacement →
    IsCourse o → RecursBy R o.set p d
course_recurs o R p d rule period displacement is =
    subst (λ n. RecursBy R o.set n d) (sym period)
    (subst (λ x. RecursBy R o.set o.period x) (sym displacement)
    (subst (λ S. RecursBy S o.set o.period o.displacement) (sym rule) is.recurs))

abbrev pub Holds : Hull → Rule → Generation → ℕ → Type 0
Holds h R P p = (k : ℕ) (c : Cell) → k < p → contains (generation R P k) c ≡ true → IsInHull h c

pub hull_holds : (o : Course) (h : Hull) (R : Rule) (p : ℕ) → R ≡ o.rule → p ≡ o.period → IsHullOf h o →
    Holds h R o.set p
hull_holds o h R p rule period held =
    subst (λ n. Holds h R o.set n) (sym period) (subst (λ S. Holds h S o.set o.period) (sym rule) held)

-- ---- lanes, and rounds at which what is in them is past or still ahead

-- the places from l to r, which move by x in a round
abbrev pub lane_of : ℤ → ℤ → ℤ → Lane
lane_of l r x = record { first = l; last = r; by = x }

-- a lane is the same where its numbers have gone through machine words
word_lane : (l r x : ℤ) → SFits w32 l → SFits w32 r → SFits w128 x →
    lane_of (to_z w32 (of_z w32 l)) (to_z w32 (of_z w32 r)) (to_z w128 (of_z w128 x)) ≡ lane_of l r x
word_lane l r x a b c = λ i. lane_of (to_z-of_z w32 l a i) (to_z-of_z w32 r b i) (to_z-of_z w128 x c i)

pub word_columns : (h : Hull) (d : Cell) → SFits w32 h.left → SFits w32 h.right → SFits w128 d.0 →
    lane_of (to_z w32 (of_z w32 h.left)) (to_z w32 (of_z w32 h.right)) (to_z w128 (of_z w128 d.0)) ≡ columns h d
word_columns h d = word_lane h.left h.right d.0

pub word_rows : (h : Hull) (d : Cell) → SFits w32 h.top → SFits w32 h.bottom → SFits w128 d.1 →
    lane_of (to_z w32 (of_z w32 h.top)) (to_z w32 (of_z w32 h.bottom)) (to_z w128 (of_z w128 d.1)) ≡ rows h d
word_rows h d = word_lane h.top h.bottom d.1

pub past_same : (a b a' b' : Lane) (k : ℕ) → a ≡ a' → b ≡ b' → IsOnePast a b k → IsOnePast a' b' k
past_same a b a' b' k first second past =
    subst (λ l. IsOnePast l b' k) first (subst (λ l. IsOnePast a l k) second past)

pub ahead_same : (a b a' b' : Lane) (k : ℕ) → a ≡ a' → b ≡ b' → IsOneAhead a b k → IsOneAhead a' b' k
ahead_same a b a' b' k first second ahead =
    subst (λ l. IsOneAhead l b' k) first (subst (λ l. IsOneAhead a l k) second ahead)

-- two boxes, each with its set's move
abbrev pub watch_of : Hull → Cell → Hull → Cell → Watch
watch_of g x h y = record { hull = g; by = x; other_hull = h; other_by = y }

-- the sooner of two rounds after which the boxes have passed each other, along the one axis and along the other
pub sooner : (w : Watch) (m n k : ℕ) → k ≡ min m n → IsOnePast (columns w.hull w.by) (columns w.other_hull w.other_by) m →
    IsOnePast (rows w.hull w.by) (rows w.other_hull w.other_by) n → IsPastAfter w k
sooner w m n k least across down =
    elim (cases_lt n m) [
      | inl less ↦ inr (inl (subst (IsOnePast (rows w.hull w.by) (rows w.other_hull w.other_by))
          (let z : n ≡ k = omega arith in z) down))
      | inr most ↦ inl (subst (IsOnePast (columns w.hull w.by) (columns w.other_hull w.other_by))
          (let z : m ≡ k = omega arith in z) across)
    ]

-- the later of two rounds until which the one is ahead of the other
pub later : (w : Watch) (m n k : ℕ) → k ≡ max m n → IsOneAhead (columns w.hull w.by) (columns w.other_hull w.other_by) m →
    IsOneAhead (rows w.hull w.by) (rows w.other_hull w.other_by) n → IsAheadBefore w k
later w m n k greatest across down =
    elim (cases_lt n m) [
      | inl less ↦ inl (subst (IsOneAhead (columns w.hull w.by) (columns w.other_hull w.other_by))
          (let z : m ≡ k = omega arith in z) across)
      | inr most ↦ inr (inl (subst (IsOneAhead (rows w.hull w.by) (rows w.other_hull w.other_by))
          (let z : n ≡ k = omega arith in z) down))
    ]

-- two sets that recur, and after a and b periods stand as they began
pub record IsPair (R : Rule) (P Q : Generation) (p q a b : ℕ) (d e : Cell) : Type 0 where
  pub first : RecursBy R P p d
  pub second : RecursBy R Q q e
  pub together : a * p ≡ b * q
  pub some : 1 ≤ a
  pub others : 1 ≤ b

pub IsPair-swap : (R : Rule) (P Q : Generation) (p q a b : ℕ) (d e : Cell) → IsPair R P Q p q a b d e →
    IsPair R Q P q p b a e d
IsPair-swap R P Q p q a b d e pair = record {
  first = pair.second;
  second = pair.first;
  together = sym pair.together;
  some = pair.others;
  others = pair.some;
}

-- ---- a gap that does not close before a round

pub near_across : (c d : Cell) → AreNear c d → c.0 ≤ℤ (d.0 +ℤ pos 2)
near_across c d near = near.right

pub near_down : (c d : Cell) → AreNear c d → c.1 ≤ℤ (d.1 +ℤ pos 2)
near_down c d near = near.below

pub no_gap : (x y : ℤ) → (y +ℤ pos 3) ≤ℤ x → x ≤ℤ (y +ℤ pos 2) → ⊥
no_gap x y gap near = omega (arith, ints)

no_time : (t k n : ℕ) → k ≡ 0 → t < k * n → ⊥
no_time t k n none early = let w : t < 0 * n = subst (λ z. t < z * n) none early in omega arith

split : (t n : ℕ) → 1 ≤ n → (t / n) * n + t % n ≡ t
split t n one = omega arith

module _ (f : Cell → ℤ) (axis : IsAxis f) (close : (c d : Cell) → AreNear c d → f c ≤ℤ (f d +ℤ pos 2)) (R : Rule)
    (P Q : Generation) (p q a b : ℕ) (d e : Cell) (pair : IsPair R P Q p q a b d e) (l h r s : ℤ)
    (left : (n : ℕ) (c : Cell) → n < p → contains (generation R P n) c ≡ true → l ≤ℤ f c)
    (right : (n : ℕ) (c : Cell) → n < q → contains (generation R Q n) c ≡ true → f c ≤ℤ h) (k : ℕ) where
  apart_ahead : IsYetAhead (passing (lane_of l r (f (multiple_of a d))) (lane_of s h (f (multiple_of b e))) k) →
      AreApartBefore R (k * (a * p)) P Q
  apart_ahead ahead t early x y in_P in_Q near =
      let whole =
      whole_first f axis R P Q p q a b d e pair.first pair.second pair.together pair.some pair.others in
      let one : 1 ≤ a * p = whole.later in
      let v = further (f (multiple_of b e)) (f (multiple_of a d)) ahead.order in
      let round : t / (a * p) < k = (div-lt_iff_lt-mul one).1 early in
      let then = split t (a * p) one in
      no_gap (f x) (f y)
      (gap_until f axis R P Q p q a b d e pair.first pair.second pair.together pair.some pair.others l h (t / (a * p))
      left right (t % (a * p)) (mod-lt t one) x y
      (subst (λ n. contains (generation R P n) x ≡ true) (sym then) in_P)
      (subst (λ n. contains (generation R Q n) y ≡ true) (sym then) in_Q) v.0 v.1
      (ahead.ahead v.0 (t / (a * p)) v.1 round)) (close x y near)

module _ (R : Rule) (P Q : Generation) (p q a b : ℕ) (d e : Cell) (pair : IsPair R P Q p q a b d e) (g h : Hull)
    (in_g : Holds g R P p) (in_h : Holds h R Q q) (k : ℕ) where
  apart_until_right : IsYetAhead (passing (columns g (multiple_of a d)) (columns h (multiple_of b e)) k) →
      AreApartBefore R (k * (a * p)) P Q
  apart_until_right =
      apart_ahead (λ c. c.0) x_axis near_across R P Q p q a b d e pair g.left h.right g.right h.left
      (λ n c early at. (in_g n c early at).left) (λ n c early at. (in_h n c early at).right) k

  apart_until_below : IsYetAhead (passing (rows g (multiple_of a d)) (rows h (multiple_of b e)) k) →
      AreApartBefore R (k * (a * p)) P Q
  apart_until_below =
      apart_ahead (λ c. c.1) y_axis near_down R P Q p q a b d e pair g.top h.bottom g.bottom h.top
      (λ n c early at. (in_g n c early at).above) (λ n c early at. (in_h n c early at).below) k

-- ---- a gap that only widens

module _ (R : Rule) (P Q : Generation) (p q a b : ℕ) (d e : Cell) (pair : IsPair R P Q p q a b d e) (g h : Hull)
    (in_g : Holds g R P p) (in_h : Holds h R Q q) (k : ℕ) (before : AreApartBefore R (k * (a * p)) P Q) where
  apart_on_right : IsPassed (passing (columns g (multiple_of a d)) (columns h (multiple_of b e)) k) → AreApartForEver R P Q
  apart_on_right passed =
      let v = further (multiple_of a d).0 (multiple_of b e).0 passed.order in
      apart_by_right R (k * (a * p)) (a * p) P Q (multiple_of a d) (multiple_of b e)
      (whole_first (λ c. c.0) x_axis R P Q p q a b d e pair.first pair.second pair.together pair.some pair.others)
      (whole_second (λ c. c.0) x_axis R P Q p q a b d e pair.first pair.second pair.together pair.some pair.others)
      before passed.order
      (λ m within i j in_P in_Q.
      gap_from (λ c. c.0) x_axis R P Q p q a b d e pair.first pair.second pair.together pair.some pair.others
      g.left h.right k (λ n c early at. (in_g n c early at).left) (λ n c early at. (in_h n c early at).right)
      m within i j in_P in_Q v.0 v.1 (passed.passes v.0 v.1))

  apart_below : IsPassed (passing (rows g (multiple_of a d)) (rows h (multiple_of b e)) k) → AreApartForEver R P Q
  apart_below passed =
      let v = further (multiple_of a d).1 (multiple_of b e).1 passed.order in
      apart_by_below R (k * (a * p)) (a * p) P Q (multiple_of a d) (multiple_of b e)
      (whole_first (λ c. c.1) y_axis R P Q p q a b d e pair.first pair.second pair.together pair.some pair.others)
      (whole_second (λ c. c.1) y_axis R P Q p q a b d e pair.first pair.second pair.together pair.some pair.others)
      before passed.order
      (λ m within i j in_P in_Q.
      gap_from (λ c. c.1) y_axis R P Q p q a b d e pair.first pair.second pair.together pair.some pair.others
      g.top h.bottom k (λ n c early at. (in_g n c early at).above) (λ n c early at. (in_h n c early at).below)
      m within i j in_P in_Q v.0 v.1 (passed.passes v.0 v.1))

  apart_at_rest : (multiple_of a d ≡ multiple_of b e) × (k ≡ 1) → AreApartForEver R P Q
  apart_at_rest same =
      apart_by_period R (a * p) (multiple_of a d) P Q
      (whole_first (λ c. c.0) x_axis R P Q p q a b d e pair.first pair.second pair.together pair.some pair.others)
      (subst (λ z. RecursBy R Q (a * p) z) (sym same.0)
      (whole_second (λ c. c.0) x_axis R P Q p q a b d e pair.first pair.second pair.together pair.some pair.others))
      (λ m early. before m (subst (λ n. m < n * (a * p)) (sym same.1) (let w : m < 1 * (a * p) = omega arith in w)))

-- ---- both

before_swapped : (R : Rule) (P Q : Generation) (m n : ℕ) → m ≡ n → AreApartBefore R m P Q → AreApartBefore R n Q P
before_swapped R P Q m n same before t early =
    AreApart-swap (generation R P t) (generation R Q t) (before t (subst (λ z. t < z) (sym same) early))

before_joined : (R : Rule) (P Q : Generation) (m n : ℕ) → AreApartBefore R m P Q → AreApartBetween R m n P Q →
    AreApartBefore R n P Q
before_joined R P Q m n before between t early =
    elim (cases_lt t m) [
      | inl sooner ↦ before t sooner
      | inr later ↦ between t later early
    ]

module _ (R : Rule) (P Q : Generation) (p q a b : ℕ) (d e : Cell) (pair : IsPair R P Q p q a b d e) (g h : Hull)
    (in_g : Holds g R P p) (in_h : Holds h R Q q) where
  swapped : IsPair R Q P q p b a e d
  swapped = IsPair-swap R P Q p q a b d e pair

  turned : (k : ℕ) → k * (a * p) ≡ k * (b * q)
  turned k = ap (λ n. k * n) pair.together

  apart_at_first : (k : ℕ) → IsAheadBefore (watch_of g (multiple_of a d) h (multiple_of b e)) k →
      AreApartBefore R (k * (a * p)) P Q
  apart_at_first k ahead =
      elim ahead [
        | inl across ↦ elim across [
          | inl right ↦ apart_until_right R P Q p q a b d e pair g h in_g in_h k right
          | inr left ↦ before_swapped R Q P (k * (b * q)) (k * (a * p)) (sym (turned k))
              (apart_until_right R Q P q p b a e d swapped h g in_h in_g k left)
        ]
        | inr more ↦ elim more [
          | inl down ↦ elim down [
            | inl below ↦ apart_until_below R P Q p q a b d e pair g h in_g in_h k below
            | inr above ↦ before_swapped R Q P (k * (b * q)) (k * (a * p)) (sym (turned k))
                (apart_until_below R Q P q p b a e d swapped h g in_h in_g k above)
          ]
          | inr none ↦ λ t early. absurd (no_time t k (a * p) none early)
        ]
      ]

  apart_at_last : (k : ℕ) → IsPastAfter (watch_of g (multiple_of a d) h (multiple_of b e)) k →
      AreApartBefore R (k * (a * p)) P Q → AreApartForEver R P Q
  apart_at_last k past before =
      let other_before = before_swapped R P Q (k * (a * p)) (k * (b * q)) (turned k) before in
      elim past [
        | inl across ↦ elim across [
          | inl right ↦ apart_on_right R P Q p q a b d e pair g h in_g in_h k before right
          | inr left ↦ AreApartForEver-swap R Q P
              (apart_on_right R Q P q p b a e d swapped h g in_h in_g k other_before left)
        ]
        | inr more ↦ elim more [
          | inl down ↦ elim down [
            | inl below ↦ apart_below R P Q p q a b d e pair g h in_g in_h k before below
            | inr above ↦ AreApartForEver-swap R Q P
                (apart_below R Q P q p b a e d swapped h g in_h in_g k other_before above)
          ]
          | inr still ↦ apart_at_rest R P Q p q a b d e pair g h in_g in_h k before still
        ]
      ]

  pub apart_by_watch : (j k : ℕ) → IsAheadBefore (watch_of g (multiple_of a d) h (multiple_of b e)) j →
      IsPastAfter (watch_of g (multiple_of a d) h (multiple_of b e)) k →
      AreApartBetween R (j * (a * p)) (k * (a * p)) P Q → AreApartForEver R P Q
  apart_by_watch j k ahead past between =
      apart_at_last k past (before_joined R P Q (j * (a * p)) (k * (a * p)) (apart_at_first j ahead) between)
