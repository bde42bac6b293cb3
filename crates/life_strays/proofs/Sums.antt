-- Sums of numbers that recur.
use Rattle.std.proofs.Common.{◌≡◌, ℕ, zero, suc, ◌+◌, ◌-◌, ◌*◌, ◌/◌, ◌%◌, ◌<◌, ◌≤◌, ap, ◌∙◌, mod-lt, div-add-mod', mul-le-mul_left, arith}
use Rattle.std.proofs.Math.Nat.{le-div_iff_mul-le, mul-le-mul_right}
use Rattle.life_strays.specs.Totals.{sum_to}

module _ (f : ℕ → ℕ) where
  -- the sum of more numbers is no less
  pub rises : (n m : ℕ) → sum_to f n ≤ sum_to f (n + m)
  rises n zero = let e : sum_to f (n + 0) ≡ sum_to f n = ap (sum_to f) (let z : n + 0 ≡ n = omega arith in z) in omega arith
  rises n (suc m) =
      let h = rises n m in
      let e : sum_to f (n + suc m) ≡ sum_to f (n + m) + f (n + m) =
      ap (sum_to f) (let z : n + suc m ≡ suc (n + m) = omega arith in z) in
      omega arith

  module _ (p : ℕ) (again : (n : ℕ) → f (n + p) ≡ f n) where
    -- what p numbers add
    abbrev once : ℕ
    once = sum_to f p

    one_more : (n : ℕ) → sum_to f (n + p) ≡ sum_to f n + once
    one_more zero =
        ap (sum_to f) (let z : 0 + p ≡ p = omega arith in z) ∙ (let z : once ≡ 0 + once = omega arith in z)
    one_more (suc n) =
        let h = one_more n in
        let k = again n in
        let e : sum_to f (suc n + p) ≡ sum_to f (n + p) + f (n + p) =
        ap (sum_to f) (let z : suc n + p ≡ suc (n + p) = omega arith in z) in
        omega arith

    more : (q n : ℕ) → sum_to f (n + q * p) ≡ sum_to f n + q * once
    more zero n = ap (sum_to f) (let z : n + 0 * p ≡ n = omega arith in z) ∙ (let z : sum_to f n ≡ sum_to f n + 0 * once = omega arith in z)
    more (suc q) n =
        let h = more q n in
        let k = one_more (n + q * p) in
        let e : sum_to f (n + suc q * p) ≡ sum_to f ((n + q * p) + p) =
        ap (sum_to f) (let z : n + suc q * p ≡ (n + q * p) + p = omega arith in z) in
        omega arith

    -- a stretch has as many whole periods as fit, and less than one more
    module _ (l : ℕ) (some : 1 ≤ p) where
      abbrev rounds : ℕ
      rounds = l / p

      falls : l ≡ rounds * p + l % p
      falls = let e = div-add-mod' l p in omega arith

      reached : (s : ℕ) → sum_to f (s + l) ≡ sum_to f (s + l % p) + rounds * once
      reached s =
          ap (sum_to f) (let e = falls in let z : s + l ≡ (s + l % p) + rounds * p = omega arith in z)
          ∙ more rounds (s + l % p)

      least : (s : ℕ) → rounds * once ≤ sum_to f (s + l) - sum_to f s
      least s = let e = reached s in let h = rises s (l % p) in omega arith

      most : (s : ℕ) → sum_to f (s + l) - sum_to f s ≤ rounds * once + once
      most s =
          let e = reached s in
          let h = one_more s in
          let small : l % p < p = mod-lt l some in
          let k = rises (s + l % p) (p - l % p) in
          let there : sum_to f ((s + l % p) + (p - l % p)) ≡ sum_to f (s + p) =
          ap (sum_to f) (let z : (s + l % p) + (p - l % p) ≡ s + p = omega arith in z) in
          omega arith

  -- k * b numbers, where b is at least their period p, add up to at most (k + 1) / k times as much as k * b others
  pub even : (p b k : ℕ) → ((n : ℕ) → f (n + p) ≡ f n) → 1 ≤ p → p ≤ b → (s t : ℕ) →
      k * (sum_to f (t + k * b) - sum_to f t) ≤ (k + 1) * (sum_to f (s + k * b) - sum_to f s)
  even p b k again some short s t =
      let l : ℕ = k * b in
      let q : ℕ = l / p in
      let a : ℕ = sum_to f p in
      let w : ℕ = sum_to f (t + l) - sum_to f t in
      let v : ℕ = sum_to f (s + l) - sum_to f s in
      let low : q * a ≤ v = least p again l some s in
      let high : w ≤ q * a + a = most p again l some t in
      let fits : k * p ≤ l = mul-le-mul_left k short in
      let enough : k ≤ q = (le-div_iff_mul-le some).1 fits in
      let x : k * a ≤ q * a = mul-le-mul_right a enough in
      let y : k * w ≤ k * (q * a + a) = mul-le-mul_left k high in
      let z : (k + 1) * (q * a) ≤ (k + 1) * v = mul-le-mul_left (k + 1) low in
      let u : k * (q * a + a) ≡ k * (q * a) + k * a = omega arith in
      let o : (k + 1) * (q * a) ≡ k * (q * a) + q * a = omega arith in
      omega arith
