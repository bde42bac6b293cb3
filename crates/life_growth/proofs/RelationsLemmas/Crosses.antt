-- Cross products are orthogonal to their factors.
use Rattle.std.proofs.Common.{◌≡◌, ◌≢◌, ℕ, zero, suc, [], ◌∷◌, ℤ, pos, neg_ℤ, ◌+ℤ◌, ◌-ℤ◌, sym, ap, ◌∙◌, arith}
use Rattle.std.proofs.Math.IntN.{◌*ℤ◌, *ℤ_comm, zero-*ℤ, ℤ_ind}
use Rattle.std.proofs.lemmas.Int.{ints}
use Rattle.life_growth.specs.Meeting.Sums.{Step}
use Rattle.life_growth.specs.Relations.Relations.{IsSquare, cross, product, step_at}
use Rattle.life_growth.proofs.RelationsLemmas.Products.{one_less, one_more, product-stay, spreads}

-- over a sum and a difference on the left
pub left_sum : (x y c : ℤ) → ((x +ℤ y) *ℤ c) ≡ ((x *ℤ c) +ℤ (y *ℤ c))
left_sum x y c =
    *ℤ_comm (x +ℤ y) c ∙ spreads c x y ∙ (λ i. *ℤ_comm c x i +ℤ *ℤ_comm c y i)

pub left_difference : (x y c : ℤ) → ((x -ℤ y) *ℤ c) ≡ ((x *ℤ c) -ℤ (y *ℤ c))
left_difference x y c =
    let whole = left_sum (x -ℤ y) y c in
    let back : ((x -ℤ y) +ℤ y) *ℤ c ≡ x *ℤ c = ap (λ a. a *ℤ c) (let e : (x -ℤ y) +ℤ y ≡ x = omega (arith, ints) in e) in
    omega (arith, ints)

abbrev Regroups : ℤ → Type 0
Regroups a = (b c : ℤ) → ((a *ℤ b) *ℤ c) ≡ (a *ℤ (b *ℤ c))

regroups_none : Regroups (pos zero)
regroups_none b c = ap (λ a. a *ℤ c) (zero-*ℤ b) ∙ zero-*ℤ c ∙ sym (zero-*ℤ (b *ℤ c))

regroups_up : (m : ℤ) → Regroups m → Regroups (m +ℤ pos (suc zero))
regroups_up m before b c =
    ap (λ a. a *ℤ c) (one_more m b) ∙ left_sum (m *ℤ b) b c ∙ ap (λ a. a +ℤ (b *ℤ c)) (before b c)
    ∙ sym (one_more m (b *ℤ c))

regroups_down : (m : ℤ) → Regroups m → Regroups (m -ℤ pos (suc zero))
regroups_down m before b c =
    ap (λ a. a *ℤ c) (one_less m b) ∙ left_difference (m *ℤ b) b c ∙ ap (λ a. a -ℤ (b *ℤ c)) (before b c)
    ∙ sym (one_less m (b *ℤ c))

regroups : (a : ℤ) → Regroups a
regroups a =
    ℤ_ind Regroups regroups_none (λ n before. regroups_up (pos n) before) (λ n before. regroups_down (neg_ℤ (pos n)) before) a

-- the outer two change places, and the last two
outer : (a b c : ℤ) → ((a *ℤ b) *ℤ c) ≡ ((c *ℤ b) *ℤ a)
outer a b c = regroups a b c ∙ *ℤ_comm a (b *ℤ c) ∙ ap (λ x. x *ℤ a) (*ℤ_comm b c)

pub last_two : (a b c : ℤ) → ((a *ℤ b) *ℤ c) ≡ ((a *ℤ c) *ℤ b)
last_two a b c = regroups a b c ∙ ap (λ x. a *ℤ x) (*ℤ_comm b c) ∙ sym (regroups a c b)

module _ (v w : Step) where
  abbrev v0 : ℤ
  v0 = v.0

  abbrev v1 : ℤ
  v1 = v.1.0

  abbrev v2 : ℤ
  v2 = v.1.1

  abbrev w0 : ℤ
  w0 = w.0

  abbrev w1 : ℤ
  w1 = w.1.0

  abbrev w2 : ℤ
  w2 = w.1.1

  pub square_first : product (cross v w) v ≡ pos 0
  square_first =
      let first = left_difference (v1 *ℤ w2) (v2 *ℤ w1) v0 in
      let second = left_difference (v2 *ℤ w0) (v0 *ℤ w2) v1 in
      let third = left_difference (v0 *ℤ w1) (v1 *ℤ w0) v2 in
      let a = outer v1 w2 v0 in
      let b = outer v2 w0 v1 in
      let c = outer v0 w1 v2 in
      omega (arith, ints)

  pub square_second : product (cross v w) w ≡ pos 0
  square_second =
      let first = left_difference (v1 *ℤ w2) (v2 *ℤ w1) w0 in
      let second = left_difference (v2 *ℤ w0) (v0 *ℤ w2) w1 in
      let third = left_difference (v0 *ℤ w1) (v1 *ℤ w0) w2 in
      let a = last_two v1 w2 w0 in
      let b = last_two v2 w0 w1 in
      let c = last_two v0 w1 w2 in
      omega (arith, ints)

  of_others : (j : ℕ) → product (cross v w) (step_at (v ∷ w ∷ []) j) ≡ pos 0
  of_others zero = square_first
  of_others (suc zero) = square_second
  of_others (suc (suc j)) = product-stay (cross v w)

  pub three_square : (u : Step) → product (cross v w) u ≢ pos 0 → IsSquare (cross v w) (u ∷ v ∷ w ∷ []) 0
  three_square u some = record { others = of_others; some = some }
