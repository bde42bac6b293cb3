-- Among more numbers than there are values two are the same.
use Rattle.std.proofs.Common.{◌≡◌, ℕ, zero, suc, ◌-◌, ◌<◌, ◌≤◌, ◌⊎◌, cond, nat_lt, inl, inr, sym, ap, ◌∙◌, arith, le-ltb, lt-ltb}
use Rattle.std.proofs.lemmas.Bool.{cases_eq, cases_lt, cond-true, cond-false}

-- v is one of the first n values, or it is none of them
found : (n v : ℕ) (f : ℕ → ℕ) → ((i : ℕ) × (i < n) × (f i ≡ v)) ⊎ ((i : ℕ) → i < n → f i ≡ v → ⊥)
found zero v f = inr (λ i h e. absurd (omega arith))
found (suc n) v f =
    elim (cases_eq (f n) v) [
      | inl here ↦ inl (n, omega arith, here)
      | inr other ↦ elim (found n v f) [
        | inl before ↦
            let h : before.0 < n = before.1 in
            inl (before.0, omega arith, before.2)
        | inr none ↦ inr (λ i h e. elim (cases_eq i n) [
          | inl last ↦ other (sym (ap f last) ∙ e)
          | inr less ↦ none i (let k : i < n = omega (arith, less) in k) e
        ])
      ]
    ]

-- a number other than v, where those above v go down by one
lowered : ℕ → ℕ → ℕ
lowered v y = cond (nat_lt v y) (y - 1) y

above : (v y : ℕ) → v < y → lowered v y ≡ y - 1
unfolding lowered
above v y h = cond-true (nat_lt v y) (y - 1) y (lt-ltb v y h)

not_above : (v y : ℕ) → y ≤ v → lowered v y ≡ y
unfolding lowered
not_above v y h = cond-false (nat_lt v y) (y - 1) y (le-ltb v y h)

lowered_below : (m v y : ℕ) → v < suc m → y < suc m → (y ≡ v → ⊥) → lowered v y < m
lowered_below m v y h k other =
    elim (cases_lt v y) [
      | inl more ↦ let e = above v y more in omega arith
      | inr less ↦ let e = not_above v y less in omega (arith, other)
    ]

lowered_one : (v y z : ℕ) → (y ≡ v → ⊥) → (z ≡ v → ⊥) → lowered v y ≡ lowered v z → y ≡ z
lowered_one v y z h k e =
    elim (cases_lt v y) [
      | inl more ↦ elim (cases_lt v z) [
        | inl too ↦ let f = above v y more in let g = above v z too in omega arith
        | inr less ↦ let f = above v y more in let g = not_above v z less in omega (arith, k)
      ]
      | inr less ↦ elim (cases_lt v z) [
        | inl more ↦ let f = not_above v y less in let g = above v z more in omega (arith, h)
        | inr too ↦ let f = not_above v y less in let g = not_above v z too in omega arith
      ]
    ]

pub two_alike : (m : ℕ) (f : ℕ → ℕ) → ((i : ℕ) → i ≤ m → f i < m) →
    (i : ℕ) × (j : ℕ) × (i < j) × (j ≤ m) × (f i ≡ f j)
two_alike zero f h = let none : f 0 < 0 = h 0 (omega arith) in absurd (omega arith)
two_alike (suc m) f h =
    let v = f (suc m) in
    elim (found (suc m) v f) [
      | inl early ↦ (early.0, suc m, early.1, omega arith, early.2)
      | inr none ↦
          let low = two_alike m (λ i. lowered v (f i)) (λ i k.
          lowered_below m v (f i) (h (suc m) (omega arith)) (h i (omega arith)) (none i (omega arith))) in
          let i = low.0 in
          let j = low.1 in
          let before : i < j = low.2 in
          let within : j ≤ m = low.3 in
          (i, j, before, omega arith, lowered_one v (f i) (f j) (none i (omega arith)) (none j (omega arith)) low.4)
    ]
