-- Bits of a byte.
use Rattle.std.proofs.Common.{◌≡◌, ◌≢◌, ℕ, ◌+◌, ◌-◌, ◌*◌, ◌/◌, ◌%◌, ◌^◌, ◌<◌, ◌≤◌, ◌⊎◌, inl, inr, ⊎_elim, w32, sym, ap, ◌∙◌, arith}
use Rattle.std.specs.Int.{bit_at, trailing_zeros}
use Rattle.std.proofs.lemmas.Bool.{cases_eq, cases_lt}
use Rattle.std.proofs.lemmas.Nat.{pow_pos}
use Rattle.std.proofs.lemmas.Nat.Bits.{bit_at-lt, bit_at_cat_high, bit_at_above, bit_at-trailing_zeros}
use Rattle.life_plane.proofs.Strips.{bit_at_mod}
use Rattle.life_slots.proofs.Splits.{not_one}

pub bit_cases : (n x : ℕ) → (bit_at n x ≡ 1) ⊎ (bit_at n x ≡ 0)
bit_cases n x =
    ⊎_elim (λ one. inl one)
    (λ (other : bit_at n x ≢ 1). inr (not_one (bit_at n x) (bit_at-lt n x) other))
    (cases_eq (bit_at n x) 1)

-- the bits from bit b on
pub bit_at_rest : (n b j : ℕ) → bit_at (n / 2 ^ b) j ≡ bit_at n (b + j)
bit_at_rest n b j =
    let some : 0 < 2 ^ b = pow_pos b in
    let small : n % 2 ^ b < 2 ^ b = omega arith in
    let whole : n / 2 ^ b * 2 ^ b + n % 2 ^ b ≡ n = omega arith in
    let past : b ≤ b + j = omega arith in
    let back : b + j - b ≡ j = omega arith in
    sym (ap (λ w. bit_at w (b + j)) (sym whole) ∙ bit_at_cat_high (n / 2 ^ b) b (n % 2 ^ b) (b + j) small past ∙ ap (bit_at (n / 2 ^ b)) back)

pub bit_from : (n w b k : ℕ) → w ≡ n → b ≤ k → bit_at n k ≡ bit_at (w / 2 ^ b) (k - b)
bit_from n w b k is from =
    let k_is : k ≡ b + (k - b) = omega arith in
    ap (bit_at n) k_is ∙ sym (bit_at_rest n b (k - b)) ∙ ap (λ v. bit_at (v / 2 ^ b) (k - b)) (sym is)

pub record FirstBit (n b i : ℕ) : Type 0 where
  pub small : i < 8
  pub marked : bit_at n i ≡ 1
  pub between : (k : ℕ) → b ≤ k → k < i → bit_at n k ≡ 0

-- the first bit of a byte from bit b on
pub first_bit : (n w b : ℕ) → w ≡ n → n < 256 → (w / 2 ^ b ≡ 0 → ⊥) → FirstBit n b (b + trailing_zeros w32 (w / 2 ^ b))
first_bit n w b is byte some =
    let less : w / 2 ^ b ≤ w = omega arith in
    let first = bit_at-trailing_zeros w32 (w / 2 ^ b) (omega arith) (omega arith) in
    let is_set : bit_at n (b + trailing_zeros w32 (w / 2 ^ b)) ≡ 1 =
    sym (bit_at_rest n b (trailing_zeros w32 (w / 2 ^ b))) ∙ ap (λ v. bit_at (v / 2 ^ b) (trailing_zeros w32 (w / 2 ^ b))) (sym is) ∙ first.1 in
    record {
      small =
          ⊎_elim (λ (inside : b + trailing_zeros w32 (w / 2 ^ b) < 8). inside)
          (λ (past : 8 ≤ b + trailing_zeros w32 (w / 2 ^ b)).
          let never : 1 ≡ 0 = sym is_set ∙ bit_at_above n 8 (b + trailing_zeros w32 (w / 2 ^ b)) byte past in absurd (omega arith))
          (cases_lt (b + trailing_zeros w32 (w / 2 ^ b)) 8);
      marked = is_set;
      between = λ k from before. bit_from n w b k is from ∙ first.2 (k - b) (omega arith);
    }

-- a number moved up
pub bit_at_moved : (n at w k : ℕ) → at + k < w → bit_at (n * 2 ^ at % 2 ^ w) (at + k) ≡ bit_at n k
bit_at_moved n at w k inside =
    let none : n * 2 ^ at ≡ n * 2 ^ at + 0 = omega arith in
    let back : at + k - at ≡ k = omega arith in
    bit_at_mod (n * 2 ^ at) w (at + k) inside
    ∙ ap (λ v. bit_at v (at + k)) none
    ∙ bit_at_cat_high n at 0 (at + k) (pow_pos at) (omega arith)
    ∙ ap (bit_at n) back
