-- Numbers that differ by a multiple of another.
use Rattle.std.proofs.Common.{◌≡◌, ℕ, suc, ℤ, pos, neg_ℤ, ◌+ℤ◌, ◌≤ℤ◌, ◌<ℤ◌, ◌+◌, ◌-◌, ◌*◌, ◌/◌, ◌%◌, ◌<◌, ◌≤◌, sym, ap, ◌∙◌, mod-lt, arith}
use Rattle.std.specs.Prelude.{unsigned_abs}
use Rattle.std.proofs.Math.IntN.{◌*ℤ◌, *ℤ_comm, *ℤ-zero}
use Rattle.std.proofs.Math.Nat.{div-add-mod, mul-div_cancel'}
use Rattle.std.specs.Int.{◌∣◌}
use Rattle.std.proofs.lemmas.Int.{by_lt_z, ints}
use Rattle.life_growth.proofs.RelationsLemmas.Products.{spreads}
use Rattle.life_things.specs.Lattice.Alike.{AreAlike}
use Rattle.life_things.proofs.LatticeLemmas.Lowering.{neg-left, regrouped}
use Rattle.life_things.proofs.LatticeLemmas.Rising.{times_back}

-- a multiple of a whole number
abbrev pub Times : ℕ → ℤ → Type 0
Times g x = (z : ℤ) × (x ≡ (pos g *ℤ z))

pub whole : (g : ℕ) (x : ℤ) → g ∣ unsigned_abs x → Times g x
whole g x divides =
    let q = unsigned_abs x / g in
    let size : g * q ≡ unsigned_abs x = mul-div_cancel' g divides in
    by_lt_z x (pos 0)
    (λ below. (neg_ℤ (pos q), (let z : x ≡ neg_ℤ (pos (g * q)) = omega (arith, ints) in z) ∙ sym (times_back g q)))
    (λ up. (pos q, (let z : x ≡ pos (g * q) = omega (arith, ints) in z)))

module _ (m : ℕ) where
  pub alike_same : (x y : ℤ) → x ≡ y → AreAlike m x y
  alike_same x y e = let none = *ℤ-zero (pos m) in (pos 0, omega (arith, ints))

  pub alike_back : (x y : ℤ) → AreAlike m x y → AreAlike m y x
  alike_back x y h =
      let e = h.1 in
      let turned : (pos m *ℤ neg_ℤ h.0) ≡ neg_ℤ (pos m *ℤ h.0) =
      *ℤ_comm (pos m) (neg_ℤ h.0) ∙ neg-left h.0 (pos m) ∙ ap neg_ℤ (*ℤ_comm h.0 (pos m)) in
      (neg_ℤ h.0, omega (arith, ints))

  pub alike_through : (x y z : ℤ) → AreAlike m x y → AreAlike m y z → AreAlike m x z
  alike_through x y z h k =
      let e = h.1 in
      let f = k.1 in
      let both = spreads (pos m) h.0 k.0 in
      (h.0 +ℤ k.0, omega (arith, ints))

  pub alike_times : (a x y : ℤ) → AreAlike m x y → AreAlike m (a *ℤ x) (a *ℤ y)
  alike_times a x y h =
      let e : (a *ℤ x) ≡ ((a *ℤ y) +ℤ (a *ℤ (pos m *ℤ h.0))) = ap (λ z. a *ℤ z) h.1 ∙ spreads a y (pos m *ℤ h.0) in
      let f : (a *ℤ (pos m *ℤ h.0)) ≡ (pos m *ℤ (a *ℤ h.0)) =
      sym (regrouped a (pos m) h.0) ∙ ap (λ z. z *ℤ h.0) (*ℤ_comm a (pos m)) ∙ regrouped (pos m) a h.0 in
      (a *ℤ h.0, omega (arith, ints))

  -- ---- what is left of a number

  pub left_alike : (n : ℕ) → AreAlike m (pos n) (pos (n % m))
  left_alike n = let e = div-add-mod n m in (pos (n / m), omega (arith, ints))

  pub up_alike : (x : ℤ) (a : ℕ) → a ≡ unsigned_abs x → pos 0 ≤ℤ x → AreAlike m x (pos (a % m))
  up_alike x a e up =
      alike_through x (pos a) (pos (a % m)) (alike_same x (pos a) (omega (arith, ints))) (left_alike a)

  pub none_alike : (x : ℤ) (a : ℕ) → a ≡ unsigned_abs x → x <ℤ pos 0 → a % m ≡ 0 → AreAlike m x (pos 0)
  none_alike x a e down none =
      let whole = div-add-mod a m in
      let turned = times_back m (a / m) in
      (neg_ℤ (pos (a / m)), omega (arith, ints))

  pub down_alike : (x : ℤ) (a : ℕ) → a ≡ unsigned_abs x → x <ℤ pos 0 → 1 ≤ m → AreAlike m x (pos (m - a % m))
  down_alike x a e down some =
      let whole = div-add-mod a m in
      let less : a % m < m = mod-lt a some in
      let turned = times_back m (suc (a / m)) in
      let more : m * suc (a / m) ≡ m * (a / m) + m = omega arith in
      (neg_ℤ (pos (suc (a / m))), omega (arith, ints))
