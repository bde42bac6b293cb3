-- Each column of cells is one of 64 in one column of tiles.
use Rattle.std.proofs.Common.{◌≡◌, ℕ, ℤ, pos, negsuc, ◌+ℤ◌, ◌-◌, ◌/◌, ◌%◌, ◌<◌, ⊎_elim, Bool, true, false, refl, arith}
use Rattle.std.proofs.lemmas.Int.{ints}
use Rattle.std.proofs.lemmas.Bool.{cases_eq}
use Rattle.life_plane.specs.Flags.{as_bit}
use Rattle.life_slots.specs.Places.{start_at}

pub same_quotient : (a b : ℤ) (x j : ℕ) → x < 64 → j < 64 → (start_at a +ℤ pos x) ≡ (start_at b +ℤ pos j) → a ≡ b
same_quotient a b x j p q is = omega (arith, ints)

-- each column of cells is in a column of tiles
pub record Split (z : ℤ) : Type 0 where
  pub quotient : ℤ
  pub remainder : ℕ
  pub small : remainder < 64
  pub is : z ≡ (start_at quotient +ℤ pos remainder)

split_from : (z t : ℤ) → t ≡ (z +ℤ pos 26) → Split z
split_from z (pos n) is = record { quotient = pos (n / 64); remainder = n % 64; small = omega arith; is = omega (arith, ints) }
split_from z (negsuc n) is = record { quotient = negsuc (n / 64); remainder = 63 - n % 64; small = omega arith; is = omega (arith, ints) }

pub split : (z : ℤ) → Split z
split z = split_from z (z +ℤ pos 26) refl

pub not_one : (n : ℕ) → n < 2 → (n ≡ 1 → ⊥) → n ≡ 0
not_one n small not = ⊎_elim (λ one. absurd (not one)) (λ other. omega arith) (cases_eq n 1)

pub same_flag : (a b : Bool) → as_bit a ≡ as_bit b → a ≡ b
same_flag true true is = refl
same_flag false false is = refl
same_flag true false is = absurd (omega arith)
same_flag false true is = absurd (omega arith)
