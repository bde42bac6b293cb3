-- How often a common divisor goes into each of two numbers.
use Rattle.std.proofs.Common.{◌≡◌, ℕ, ◌*◌, ◌/◌, ◌≤◌, inl, inr, sym, ap, subst, ◌∙◌, arith}
use Rattle.std.proofs.lemmas.Bool.{cases_lt}
use Rattle.std.proofs.lemmas.Nat.{le-div}
use Rattle.std.proofs.lemmas.Nat.Gcd.{le_of_dvd, same_from_IsGcd}
use Rattle.std.specs.Int.{◌∣◌, IsGcd}
use Rattle.std.proofs.Math.Nat.{div-mul_cancel, mul_left_comm}

-- what divides a number that is not zero is not zero
pub some_divisor : (g n : ℕ) → g ∣ n → 1 ≤ n → 1 ≤ g
some_divisor g n divides some =
    elim (cases_lt 0 g) [
      | inl one ↦ one
      | inr none ↦
          let zero : g ≡ 0 = omega arith in
          let whole : n / g * g ≡ n = div-mul_cancel g divides in
          let nothing : n / g * 0 ≡ n = subst (λ z. n / g * z ≡ n) zero whole in
          absurd (omega arith)
    ]

pub some_parts : (g n : ℕ) → g ∣ n → 1 ≤ n → 1 ≤ n / g
some_parts g n divides some =
    let less : g ≤ n = le_of_dvd some divides in
    le-div 1 n g (some_divisor g n divides some) (let z : 1 * g ≤ n = omega arith in z)

-- each number, as many times as the divisor goes into the other, gives the same
pub parts_together : (g a b : ℕ) → g ∣ a → g ∣ b → (b / g) * a ≡ (a / g) * b
parts_together g a b first second =
    ap (λ n. (b / g) * n) (sym (div-mul_cancel g first)) ∙ mul_left_comm (b / g) (a / g) g
    ∙ ap (λ n. (a / g) * n) (div-mul_cancel g second)

pub least_parts : (g k a b : ℕ) → IsGcd a b g → IsGcd a b k → ((b / g) * k ≡ b) × ((a / g) * k ≡ a)
least_parts g k a b first second =
    let same : g ≡ k = same_from_IsGcd a b g k first second in (
      ap (λ n. (b / g) * n) (sym same) ∙ div-mul_cancel g first.1,
      ap (λ n. (a / g) * n) (sym same) ∙ div-mul_cancel g first.0,
    )
