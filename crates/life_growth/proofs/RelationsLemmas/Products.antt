-- Products of steps are sums of products.
use Rattle.std.proofs.Common.{◌≡◌, ℕ, zero, suc, List, ℤ, pos, neg_ℤ, ◌+ℤ◌, ◌-ℤ◌, sym, ap, ◌∙◌, arith}
use Rattle.std.proofs.Math.IntN.{◌*ℤ◌, +ℤ_one, -ℤ_one, pred_ℤ-*ℤ, suc_ℤ-*ℤ, zero-*ℤ, *ℤ-zero, ℤ_ind}
use Rattle.std.proofs.lemmas.Int.{ints}
use Rattle.life_growth.specs.Meeting.Sums.{Step, and_then, stay, times}
use Rattle.life_growth.specs.Relations.Relations.{IsSquare, SinglesOut, product}

abbrev Spreads : ℤ → Type 0
Spreads a = (x y : ℤ) → (a *ℤ (x +ℤ y)) ≡ ((a *ℤ x) +ℤ (a *ℤ y))

spreads_none : Spreads (pos zero)
spreads_none x y =
    let all = zero-*ℤ (x +ℤ y) in
    let one = zero-*ℤ x in
    let two = zero-*ℤ y in
    omega (arith, ints)

pub one_more : (m k : ℤ) → ((m +ℤ pos (suc zero)) *ℤ k) ≡ ((m *ℤ k) +ℤ k)
one_more m k = ap (λ a. a *ℤ k) (+ℤ_one m) ∙ suc_ℤ-*ℤ m k

pub one_less : (m k : ℤ) → ((m -ℤ pos (suc zero)) *ℤ k) ≡ ((m *ℤ k) -ℤ k)
one_less m k = ap (λ a. a *ℤ k) (-ℤ_one m) ∙ pred_ℤ-*ℤ m k

spreads_up : (m : ℤ) → Spreads m → Spreads (m +ℤ pos (suc zero))
spreads_up m before x y =
    let all = one_more m (x +ℤ y) in
    let one = one_more m x in
    let two = one_more m y in
    let here = before x y in
    omega (arith, ints)

spreads_down : (m : ℤ) → Spreads m → Spreads (m -ℤ pos (suc zero))
spreads_down m before x y =
    let all = one_less m (x +ℤ y) in
    let one = one_less m x in
    let two = one_less m y in
    let here = before x y in
    omega (arith, ints)

pub spreads : (a : ℤ) → Spreads a
spreads a = ℤ_ind Spreads spreads_none (λ n before. spreads_up (pos n) before) (λ n before. spreads_down (neg_ℤ (pos n)) before) a

pub product-then : (n u v : Step) → product n (and_then u v) ≡ (product n u +ℤ product n v)
product-then n u v =
    let first = spreads n.0 u.0 v.0 in
    let second = spreads n.1.0 u.1.0 v.1.0 in
    let third = spreads n.1.1 u.1.1 v.1.1 in
    omega (arith, ints)

pub product-stay : (n : Step) → product n stay ≡ pos 0
product-stay n =
    let first = *ℤ-zero n.0 in
    let second = *ℤ-zero n.1.0 in
    let third = *ℤ-zero n.1.1 in
    omega (arith, ints)

pub product-times : (n u : Step) (often : ℕ) → product n (times often u) ≡ (pos often *ℤ product n u)
product-times n u zero = product-stay n ∙ sym (zero-*ℤ (product n u))
product-times n u (suc k) =
    let both = product-then n (times k u) u in
    let before = product-times n u k in
    let more = suc_ℤ-*ℤ (pos k) (product n u) in
    both ∙ ap (λ z. z +ℤ product n u) before ∙ sym more

pub singled_out : (n : Step) (us : List Step) (i : ℕ) → IsSquare n us i → SinglesOut (product n) us i
singled_out n us i square = record {
  additive = record { adds = product-then n; stays = product-stay n };
  others = square.others;
  some = square.some;
}
