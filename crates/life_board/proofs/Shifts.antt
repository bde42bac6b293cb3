-- The bits of a word shifted down or up, and where a number is relative to 0 to 63.
use Rattle.std.proofs.Common.{◌≡◌, ℕ, ℤ, pos, negsuc, ◌<ℤ◌, ◌≤ℤ◌, ◌⊎◌, inl, inr, ⊎_elim, refl, ◌+◌, ◌*◌, ◌/◌, ◌%◌, ◌^◌, ◌<◌, ◌≤◌, sym, ap, ◌∙◌, arith}
use Rattle.std.specs.Int.{bit_at}
use Rattle.std.proofs.lemmas.Bool.{cases_lt}
use Rattle.std.proofs.lemmas.Int.{ints}
use Rattle.std.proofs.lemmas.Nat.Bits.{bit_at-zero, bit_at_above, bit_at_cat_low}
use Rattle.life_plane.proofs.Strips.{bit_at_mod}
use Rattle.life_slots.proofs.Bits.{bit_at_moved, bit_at_rest}

pub down_inside : (word s j n : ℕ) → s + j ≡ n → bit_at (word / 2 ^ s) j ≡ bit_at word n
down_inside word s j n at = bit_at_rest word s j ∙ ap (bit_at word) at

pub down_behind : (word s j : ℕ) → word < 2 ^ 64 → 64 ≤ s + j → bit_at (word / 2 ^ s) j ≡ 0
down_behind word s j fits past = bit_at_rest word s j ∙ bit_at_above word 64 (s + j) fits past

pub up_inside : (word s j n : ℕ) → s + n ≡ j → j < 64 → bit_at (word * 2 ^ s % 2 ^ 64) j ≡ bit_at word n
up_inside word s j n at small = ap (bit_at (word * 2 ^ s % 2 ^ 64)) (sym at) ∙ bit_at_moved word s 64 n (omega arith)

pub up_before : (word s j : ℕ) → j < 64 → j < s → bit_at (word * 2 ^ s % 2 ^ 64) j ≡ 0
up_before word s j small less =
    let none : word * 2 ^ s ≡ word * 2 ^ s + 0 = omega arith in
    bit_at_mod (word * 2 ^ s) 64 j small ∙ ap (λ m. bit_at m j) none ∙ bit_at_cat_low word s 0 j less ∙ bit_at-zero j

pub inside_or_outside : (d : ℤ) → ((n : ℕ) × (n < 64) × (d ≡ pos n)) ⊎ ((d <ℤ pos 0) ⊎ (pos 64 ≤ℤ d))
inside_or_outside (pos n) = ⊎_elim (λ (small : n < 64). inl (n, small, refl)) (λ (past : 64 ≤ n). inr (inr (omega (arith, ints)))) (cases_lt n 64)
inside_or_outside (negsuc n) = inr (inl (omega (arith, ints)))
