-- Bits in which words differ.
use Rattle.std.proofs.Common.{◌≡◌, ℕ, ◌+◌, ◌<◌, ◌%◌, ◌↔◌, bit_or, bit_xor, sym, ap, ◌∙◌, arith, below_more}
use Rattle.std.specs.Int.{bit_at}
use Rattle.std.proofs.lemmas.Nat.Bits.{bit_at_or, bit_at_xor, bit_at-lt}
use Rattle.life_model.proofs.Numbers.{max_zero, zero_max}

differ : (old new : ℕ) → old < 2 → new < 2 → (old + new) % 2 ≡ 0 → new ≡ old
differ old new p q is = omega arith

agree : (old new : ℕ) → old < 2 → new ≡ old → (old + new) % 2 ≡ 0
agree old new p is = omega arith

-- the exclusive or of two words is clear exactly at the bits where they agree
pub same_where_clear : (old new x : ℕ) → (bit_at (bit_xor old new) x ≡ 0) ↔ (bit_at new x ≡ bit_at old x)
same_where_clear old new x = (
  λ is. differ _ _ (bit_at-lt old x) (bit_at-lt new x) (sym (bit_at_xor old new x) ∙ is),
  λ is. bit_at_xor old new x ∙ agree _ _ (bit_at-lt old x) is,
)

-- one more row
pub same_so_far : (old new : ℕ → ℕ) (all row y x : ℕ) → row ≡ old y →
    (bit_at all x ≡ 0) ↔ ((n : ℕ) → n < y → bit_at (new n) x ≡ bit_at (old n) x) →
    (bit_at (bit_or all (bit_xor row (new y))) x ≡ 0) ↔ ((n : ℕ) → n < y + 1 → bit_at (new n) x ≡ bit_at (old n) x)
same_so_far old new all row y x is before = (
  λ clear.
      let parts = zero_max (bit_at all x) (bit_at (bit_xor row (new y)) x) (sym (bit_at_or all (bit_xor row (new y)) x) ∙ clear) in
      below_more (λ n. bit_at (new n) x ≡ bit_at (old n) x) y (before.0 parts.0)
      ((same_where_clear row (new y) x).0 parts.1 ∙ ap (λ w. bit_at w x) is),
  λ same.
      bit_at_or all (bit_xor row (new y)) x
      ∙ max_zero _ _ (before.1 (λ n less. same n (omega arith)))
      ((same_where_clear row (new y) x).1 (same y (omega arith) ∙ sym (ap (λ w. bit_at w x) is))),
)
