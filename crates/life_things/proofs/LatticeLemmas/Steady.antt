-- Products with a number that keep the order, or reverse it.
use Rattle.std.proofs.Common.{◌≡◌, ℕ, zero, suc, ℤ, neg_ℤ, pos, negsuc, ◌+ℤ◌, ◌-ℤ◌, ◌≤ℤ◌, ◌*◌, refl, ap, ◌∙◌, arith}
use Rattle.std.proofs.Math.IntN.{◌*ℤ◌, zero-*ℤ}
use Rattle.std.proofs.lemmas.Int.{ints}
use Rattle.life_growth.proofs.RelationsLemmas.Products.{spreads}

-- how much greater one number is
pub ahead : (x y : ℤ) → x ≤ℤ y → (v : ℕ) × (y ≡ x +ℤ pos v)
ahead x y h =
    elim (y -ℤ x) as (λ z. y -ℤ x ≡ z → (v : ℕ) × (y ≡ x +ℤ pos v)) [
      | pos n ↦ λ e. (n, omega (arith, ints))
      | negsuc n ↦ λ e. absurd (omega (arith, ints))
    ] refl

up_times : (f : ℤ) (v : ℕ) → pos 0 ≤ℤ f → (w : ℕ) × ((f *ℤ pos v) ≡ pos w)
up_times (pos a) v h = (a * v, refl)
up_times (negsuc a) v h = absurd (omega (arith, ints))

down_times : (f : ℤ) (v : ℕ) → f ≤ℤ pos 0 → (w : ℕ) × ((f *ℤ pos v) ≡ neg_ℤ (pos w))
down_times (pos zero) v h = (zero, zero-*ℤ (pos v))
down_times (pos (suc a)) v h = absurd (omega (arith, ints))
down_times (negsuc a) v h = (suc a * v, refl)

pub keeps_order : (f x y : ℤ) → pos 0 ≤ℤ f → x ≤ℤ y → (f *ℤ x) ≤ℤ (f *ℤ y)
keeps_order f x y up less =
    let more = ahead x y less in
    let whole : (f *ℤ y) ≡ ((f *ℤ x) +ℤ (f *ℤ pos more.0)) = ap (λ z. f *ℤ z) more.1 ∙ spreads f x (pos more.0) in
    let rest = up_times f more.0 up in
    let size : (f *ℤ pos more.0) ≡ pos rest.0 = rest.1 in
    omega (arith, ints)

pub turns_order : (f x y : ℤ) → f ≤ℤ pos 0 → x ≤ℤ y → (f *ℤ y) ≤ℤ (f *ℤ x)
turns_order f x y down less =
    let more = ahead x y less in
    let whole : (f *ℤ y) ≡ ((f *ℤ x) +ℤ (f *ℤ pos more.0)) = ap (λ z. f *ℤ z) more.1 ∙ spreads f x (pos more.0) in
    let rest = down_times f more.0 down in
    let size : (f *ℤ pos more.0) ≡ neg_ℤ (pos rest.0) = rest.1 in
    omega (arith, ints)
