-- Any four steps are related.
use Rattle.std.proofs.Common.{◌≡◌, ℤ, ◌+ℤ◌, ◌-ℤ◌, sym, ap, ◌∙◌, arith}
use Rattle.std.proofs.Math.IntN.{◌*ℤ◌, *ℤ_comm}
use Rattle.std.proofs.lemmas.Int.{ints}
use Rattle.life_growth.specs.Meeting.Sums.{Step, and_then}
use Rattle.life_growth.proofs.MeetingLemmas.Reach.{step_is}
use Rattle.life_growth.specs.Relations.Relations.{scaled, spanned}
use Rattle.life_growth.proofs.RelationsLemmas.Crosses.{last_two, left_difference, left_sum}

-- ---- products of four numbers in another order

module _ (a b c d : ℤ) where
  last : (((a *ℤ b) *ℤ c) *ℤ d) ≡ (((a *ℤ b) *ℤ d) *ℤ c)
  last = last_two (a *ℤ b) c d

  second : (((a *ℤ b) *ℤ c) *ℤ d) ≡ (((a *ℤ d) *ℤ c) *ℤ b)
  second = last ∙ ap (λ x. x *ℤ c) (last_two a b d) ∙ last_two (a *ℤ d) b c

  turned : (((a *ℤ b) *ℤ c) *ℤ d) ≡ (((a *ℤ c) *ℤ d) *ℤ b)
  turned = ap (λ x. x *ℤ d) (last_two a b c) ∙ last_two (a *ℤ c) b d

module _ (a b c d : ℤ) where
  first : (((a *ℤ b) *ℤ c) *ℤ d) ≡ (((d *ℤ b) *ℤ c) *ℤ a)
  first = ap (λ x. (x *ℤ c) *ℤ d) (*ℤ_comm a b) ∙ second b a c d ∙ ap (λ x. (x *ℤ c) *ℤ a) (*ℤ_comm b d)

  crossed : (((a *ℤ b) *ℤ c) *ℤ d) ≡ (((c *ℤ b) *ℤ d) *ℤ a)
  crossed = ap (λ x. (x *ℤ c) *ℤ d) (*ℤ_comm a b) ∙ turned b a c d ∙ ap (λ x. (x *ℤ d) *ℤ a) (*ℤ_comm b c)

  led : (((a *ℤ b) *ℤ c) *ℤ d) ≡ (((d *ℤ a) *ℤ c) *ℤ b)
  led = second a b c d ∙ ap (λ x. (x *ℤ c) *ℤ b) (*ℤ_comm a d)

-- ---- the volume that three steps span, times t

spread_two : (a b c t : ℤ) → (((a -ℤ b) *ℤ c) *ℤ t) ≡ (((a *ℤ c) *ℤ t) -ℤ ((b *ℤ c) *ℤ t))
spread_two a b c t = ap (λ x. x *ℤ t) (left_difference a b c) ∙ left_difference (a *ℤ c) (b *ℤ c) t

spread : (u v w : Step) (t : ℤ) →
    (spanned u v w *ℤ t)
    ≡ ((((((v.1.0 *ℤ w.1.1) *ℤ u.0) *ℤ t) -ℤ (((v.1.1 *ℤ w.1.0) *ℤ u.0) *ℤ t)))
    +ℤ (((((v.1.1 *ℤ w.0) *ℤ u.1.0) *ℤ t) -ℤ (((v.0 *ℤ w.1.1) *ℤ u.1.0) *ℤ t))
    +ℤ ((((v.0 *ℤ w.1.0) *ℤ u.1.1) *ℤ t) -ℤ (((v.1.0 *ℤ w.0) *ℤ u.1.1) *ℤ t))))
spread u v w t =
    let x = ((v.1.0 *ℤ w.1.1) -ℤ (v.1.1 *ℤ w.1.0)) *ℤ u.0 in
    let y = ((v.1.1 *ℤ w.0) -ℤ (v.0 *ℤ w.1.1)) *ℤ u.1.0 in
    let z = ((v.0 *ℤ w.1.0) -ℤ (v.1.0 *ℤ w.0)) *ℤ u.1.1 in
    let one = spread_two (v.1.0 *ℤ w.1.1) (v.1.1 *ℤ w.1.0) u.0 t in
    let two = spread_two (v.1.1 *ℤ w.0) (v.0 *ℤ w.1.1) u.1.0 t in
    let three = spread_two (v.0 *ℤ w.1.0) (v.1.0 *ℤ w.0) u.1.1 t in
    left_sum x (y +ℤ z) t ∙ (λ i. one i +ℤ left_sum y z t i)
    ∙ (λ i. (((((v.1.0 *ℤ w.1.1) *ℤ u.0) *ℤ t) -ℤ (((v.1.1 *ℤ w.1.0) *ℤ u.0) *ℤ t))) +ℤ (two i +ℤ three i))

-- ---- one coordinate, and the others by turning the axes

flat : (p q r s t o a b c d e f : ℤ) →
    ((p -ℤ q) +ℤ ((r -ℤ s) +ℤ (t -ℤ o)))
    ≡ (((p -ℤ q) +ℤ ((a -ℤ b) +ℤ (c -ℤ d)))
    +ℤ (((b -ℤ c) +ℤ ((e -ℤ s) +ℤ (t -ℤ f))) +ℤ ((d -ℤ a) +ℤ ((r -ℤ e) +ℤ (f -ℤ o)))))
flat p q r s t o a b c d e f = omega (arith, ints)

one_axis : (u v w z : Step) →
    (spanned u v w *ℤ z.0)
    ≡ ((spanned z v w *ℤ u.0) +ℤ ((spanned u z w *ℤ v.0) +ℤ (spanned u v z *ℤ w.0)))
one_axis u v w z =
    let a1 = ((v.1.0 *ℤ w.1.1) *ℤ u.0) *ℤ z.0 in
    let a2 = ((v.1.1 *ℤ w.1.0) *ℤ u.0) *ℤ z.0 in
    let a3 = ((v.1.1 *ℤ w.0) *ℤ u.1.0) *ℤ z.0 in
    let a4 = ((v.0 *ℤ w.1.1) *ℤ u.1.0) *ℤ z.0 in
    let a5 = ((v.0 *ℤ w.1.0) *ℤ u.1.1) *ℤ z.0 in
    let a6 = ((v.1.0 *ℤ w.0) *ℤ u.1.1) *ℤ z.0 in
    let b3 = ((v.1.1 *ℤ w.0) *ℤ z.1.0) *ℤ u.0 in
    let b4 = ((v.0 *ℤ w.1.1) *ℤ z.1.0) *ℤ u.0 in
    let b5 = ((v.0 *ℤ w.1.0) *ℤ z.1.1) *ℤ u.0 in
    let b6 = ((v.1.0 *ℤ w.0) *ℤ z.1.1) *ℤ u.0 in
    let c3 = ((z.1.1 *ℤ w.0) *ℤ u.1.0) *ℤ v.0 in
    let c6 = ((z.1.0 *ℤ w.0) *ℤ u.1.1) *ℤ v.0 in
    let e1 = last v.1.0 w.1.1 u.0 z.0 in
    let e2 = last v.1.1 w.1.0 u.0 z.0 in
    let e3 = second v.1.1 w.0 u.1.0 z.0 in
    let e4 = first v.0 w.1.1 u.1.0 z.0 in
    let e5 = first v.0 w.1.0 u.1.1 z.0 in
    let e6 = second v.1.0 w.0 u.1.1 z.0 in
    let e7 = turned v.1.1 w.0 z.1.0 u.0 in
    let e8 = crossed v.0 w.1.1 z.1.0 u.0 in
    let e9 = crossed v.0 w.1.0 z.1.1 u.0 in
    let e10 = turned v.1.0 w.0 z.1.1 u.0 in
    let e11 = led z.1.1 w.0 u.1.0 v.0 in
    let e12 = led z.1.0 w.0 u.1.1 v.0 in
    spread u v w z.0
    ∙ flat a1 a2 a3 a4 a5 a6 b3 b4 b5 b6 c3 c6
    ∙ (λ i.
    ((e1 i -ℤ e2 i) +ℤ ((b3 -ℤ b4) +ℤ (b5 -ℤ b6)))
    +ℤ (((e8 i -ℤ e9 i) +ℤ ((c3 -ℤ e4 i) +ℤ (e5 i -ℤ c6)))
    +ℤ ((e10 i -ℤ e7 i) +ℤ ((e3 i -ℤ e11 i) +ℤ (e12 i -ℤ e6 i)))))
    ∙ sym (λ i. spread z v w u.0 i +ℤ (spread u z w v.0 i +ℤ spread u v z w.0 i))

abbrev turn : Step → Step
turn s = (s.1.0, (s.1.1, s.0))

around : (u v w : Step) → spanned (turn u) (turn v) (turn w) ≡ spanned u v w
around u v w = omega (arith, ints)

next_axis : (u v w z : Step) →
    (spanned u v w *ℤ z.1.0)
    ≡ ((spanned z v w *ℤ u.1.0) +ℤ ((spanned u z w *ℤ v.1.0) +ℤ (spanned u v z *ℤ w.1.0)))
next_axis u v w z =
    ap (λ a. a *ℤ z.1.0) (sym (around u v w)) ∙ one_axis (turn u) (turn v) (turn w) (turn z)
    ∙ (λ i. (around z v w i *ℤ u.1.0) +ℤ ((around u z w i *ℤ v.1.0) +ℤ (around u v z i *ℤ w.1.0)))

last_axis : (u v w z : Step) →
    (spanned u v w *ℤ z.1.1)
    ≡ ((spanned z v w *ℤ u.1.1) +ℤ ((spanned u z w *ℤ v.1.1) +ℤ (spanned u v z *ℤ w.1.1)))
last_axis u v w z =
    ap (λ a. a *ℤ z.1.1) (sym (around u v w)) ∙ next_axis (turn u) (turn v) (turn w) (turn z)
    ∙ (λ i. (around z v w i *ℤ u.1.1) +ℤ ((around u z w i *ℤ v.1.1) +ℤ (around u v z i *ℤ w.1.1)))

pub related : (u v w z : Step) →
    scaled (spanned u v w) z
    ≡ and_then (scaled (spanned z v w) u) (and_then (scaled (spanned u z w) v) (scaled (spanned u v z) w))
related u v w z =
    step_is (scaled (spanned u v w) z)
    (and_then (scaled (spanned z v w) u) (and_then (scaled (spanned u z w) v) (scaled (spanned u v z) w)))
    (one_axis u v w z) (next_axis u v w z) (last_axis u v w z)
