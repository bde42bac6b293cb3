-- Numbers with which four steps, or three in a plane, stay.
use Rattle.std.proofs.Common.{◌≡◌, ◌≢◌, suc, ℤ, pos, negsuc, neg_ℤ, ◌+ℤ◌, ◌+◌, ◌*◌, ◌≤◌, [], ◌∷◌, sym, ap, ◌∙◌, arith}
use Rattle.std.specs.Prelude.{unsigned_abs}
use Rattle.std.proofs.Math.IntN.{◌*ℤ◌, *ℤ-zero, zero-*ℤ}
use Rattle.std.proofs.lemmas.Int.{ints}
use Rattle.life_growth.specs.Meeting.Sums.{Step, and_then, stay}
use Rattle.life_growth.proofs.MeetingLemmas.Reach.{step_is, then-stay}
use Rattle.life_growth.specs.Relations.Relations.{combination, cross, product, scaled, spanned}
use Rattle.life_growth.proofs.RelationsLemmas.Spans.{related}
use Rattle.life_things.specs.Lattice.Gauges.{across_gauge, along_gauge}
use Rattle.life_things.specs.Lattice.Numbers.{StayBy, four_numbers, numbers_of, total_above, turned}
use Rattle.life_things.specs.declared.lattice.numbers.Numbers.{Numbers}
use Rattle.life_things.proofs.LatticeLemmas.Lowering.{both_sides, neg-left}

-- ---- steps that are made no times

made_none : (a : ℤ) (u : Step) → a ≡ pos 0 → scaled a u ≡ stay
made_none a u e =
    ap (λ z. scaled z u) e
    ∙ step_is (scaled (pos 0) u) stay (zero-*ℤ u.0) (zero-*ℤ u.1.0) (zero-*ℤ u.1.1)

none_more : (a : ℤ) (u : Step) → a ≡ pos 0 → stay ≡ and_then (scaled a u) stay
none_more a u e = sym (then-stay (scaled a u) ∙ made_none a u e)

pub with_third : (u v w : Step) (n : Numbers) → n.third ≡ pos 0 → StayBy (u ∷ v ∷ []) n → StayBy (u ∷ v ∷ w ∷ []) n
with_third u v w n none stays =
    ap (λ x. and_then (scaled n.first u) (and_then (scaled n.second v) x)) (sym (none_more n.third w none)) ∙ stays

pub with_fourth : (u v w z : Step) (n : Numbers) → n.fourth ≡ pos 0 → StayBy (u ∷ v ∷ w ∷ []) n →
    StayBy (u ∷ v ∷ w ∷ z ∷ []) n
with_fourth u v w z n none stays =
    ap (λ x. and_then (scaled n.first u) (and_then (scaled n.second v) (and_then (scaled n.third w) x)))
    (sym (none_more n.fourth z none)) ∙ stays

without_fourth : (u v w z : Step) (n : Numbers) → n.fourth ≡ pos 0 → StayBy (u ∷ v ∷ w ∷ z ∷ []) n →
    StayBy (u ∷ v ∷ w ∷ []) n
without_fourth u v w z n none stays =
    ap (λ x. and_then (scaled n.first u) (and_then (scaled n.second v) (and_then (scaled n.third w) x)))
    (none_more n.fourth z none) ∙ stays

-- ---- four steps

one_axis : (d a b c t : ℤ) → t ≡ neg_ℤ d → d ≡ (a +ℤ (b +ℤ c)) → (a +ℤ (b +ℤ (c +ℤ (t +ℤ pos 0)))) ≡ pos 0
one_axis d a b c t e f = omega (arith, ints)

pub four_stay : (u v w z : Step) → StayBy (u ∷ v ∷ w ∷ z ∷ []) (four_numbers u v w z)
four_stay u v w z =
    let d = spanned u v w in
    let a = spanned z v w in
    let b = spanned u z w in
    let c = spanned u v z in
    let e = related u v w z in
    step_is (combination (u ∷ v ∷ w ∷ z ∷ []) (numbers_of (four_numbers u v w z))) stay
    (one_axis (d *ℤ z.0) (a *ℤ u.0) (b *ℤ v.0) (c *ℤ w.0) (neg_ℤ d *ℤ z.0) (neg-left d z.0) (ap (λ (s : Step). s.0) e))
    (one_axis (d *ℤ z.1.0) (a *ℤ u.1.0) (b *ℤ v.1.0) (c *ℤ w.1.0) (neg_ℤ d *ℤ z.1.0) (neg-left d z.1.0)
    (ap (λ (s : Step). s.1.0) e))
    (one_axis (d *ℤ z.1.1) (a *ℤ u.1.1) (b *ℤ v.1.1) (c *ℤ w.1.1) (neg_ℤ d *ℤ z.1.1) (neg-left d z.1.1)
    (ap (λ (s : Step). s.1.1) e))

pub plane_stay : (u v w z : Step) → spanned u v w ≡ pos 0 → StayBy (u ∷ v ∷ w ∷ []) (four_numbers u v w z)
plane_stay u v w z plane =
    without_fourth u v w z (four_numbers u v w z) (ap neg_ℤ plane) (four_stay u v w z)

-- ---- what is not all 0

pub some_third : (n : Numbers) → n.third ≢ pos 0 → 1 ≤ total_above n + total_above (turned n)
some_third n some =
    let sides = both_sides n.third in
    let size : 1 ≤ unsigned_abs n.third = omega (arith, ints) in
    omega arith

pub some_fourth : (n : Numbers) → n.fourth ≢ pos 0 → 1 ≤ total_above n + total_above (turned n)
some_fourth n some =
    let sides = both_sides n.fourth in
    let size : 1 ≤ unsigned_abs n.fourth = omega (arith, ints) in
    omega arith

times_one : (x : ℤ) → (x *ℤ pos 1) ≡ x
times_one (pos n) = ap pos (let z : n * 1 ≡ n = omega arith in z)
times_one (negsuc n) = let z : suc n * 1 ≡ suc n = omega arith in omega (arith, ints)

-- one cell across, and one along the other axis
abbrev pub one_across : Step
one_across = (pos 0, (pos 1, pos 0))

abbrev pub one_along : Step
one_along = (pos 0, (pos 0, pos 1))

pub along_spanned : (u v : Step) → spanned u v one_across ≡ product (along_gauge v) u
along_spanned u v =
    let a = *ℤ-zero v.0 in
    let b = *ℤ-zero v.1.0 in
    let c = *ℤ-zero v.1.1 in
    let d = times_one v.0 in
    let e = times_one v.1.1 in
    ap (λ g. product g u)
    (step_is (cross v one_across) (along_gauge v) (omega (arith, ints)) (omega (arith, ints)) (omega (arith, ints)))

pub across_spanned : (u v : Step) → spanned u v one_along ≡ neg_ℤ (product (across_gauge v) u)
across_spanned u v =
    let a = *ℤ-zero v.0 in
    let b = *ℤ-zero v.1.0 in
    let c = *ℤ-zero v.1.1 in
    let d = times_one v.0 in
    let e = times_one v.1.0 in
    let f = neg-left v.1.0 u.0 in
    let g = neg-left v.0 u.1.0 in
    let h = zero-*ℤ u.1.1 in
    ap (λ g. product g u)
    (step_is (cross v one_along) (v.1.0, (neg_ℤ v.0, pos 0)) (omega (arith, ints)) (omega (arith, ints)) (omega (arith, ints)))
    ∙ (let z : product (v.1.0, (neg_ℤ v.0, pos 0)) u ≡ neg_ℤ (product (across_gauge v) u) = omega (arith, ints) in z)
