-- The larger of two numbers.
use Rattle.std.proofs.Common.{◌≡◌, ℕ, max, arith}

pub max_zero : (a b : ℕ) → a ≡ 0 → b ≡ 0 → max a b ≡ 0
max_zero a b e f = omega arith

pub zero_max : (a b : ℕ) → max a b ≡ 0 → (a ≡ 0) × (b ≡ 0)
zero_max a b e = (omega arith, omega arith)
