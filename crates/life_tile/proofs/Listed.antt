-- Cells of a list, moved as a whole, and the bits of a word that are left.
use Rattle.std.proofs.Common.{◌≡◌, ℕ, ◌⊎◌, inl, inr, ⊎_elim, ◌+◌, ◌-◌, ◌/◌, ◌^◌, ◌<◌, ◌≤◌, max, bit_or, w64, false, not, nat_eq, List, get_or, sym, ap, ◌∙◌, arith}
use Rattle.std.specs.Int.{bit_at, bit_not}
use Rattle.std.proofs.lemmas.Bool.{cases_lt}
use Rattle.std.proofs.lemmas.Nat.{pow_pos}
use Rattle.std.proofs.lemmas.List.{get_or_default}
use Rattle.std.proofs.lemmas.Nat.Bits.{bit_at_not, bit_at_ones_above, bit_at_or, bit_at-lt, bit_at-zero}
use Rattle.life_model.specs.Cell.{Cell, origin, plus}
use Rattle.life_model.specs.Generation.{Generation, cells, contains}
use Rattle.life_model.proofs.Generations.{contains-cells}
use Rattle.life_plane.specs.Field.{has}
use Rattle.life_plane.specs.Offsets.{IsMovedInto}
use Rattle.life_plane.proofs.Listed.{has_listed}
use Rattle.life_slots.proofs.Bits.{bit_at_rest}
use Rattle.life_tile.specs.Standing.{AreMembers}

-- a word without a set bit has none
pub no_bit : (word j : ℕ) → word ≡ 0 → bit_at word j ≡ 1 → ⊥
no_bit word j none one = (let dead : bit_at word j ≡ 0 = ap (λ w. bit_at w j) none ∙ bit_at-zero j in omega arith)

pub no_bit_told : (word j : ℕ) → not (nat_eq word 0) ≡ false → bit_at word j ≡ 1 → ⊥
no_bit_told word j told = no_bit word j (grind arith)

-- a move that leads a set into another makes the listed cells of the first members of the second
pub all_members : (G H : Generation) (list : List Cell) (d : Cell) → list ≡ cells G → IsMovedInto G H d → AreMembers H list d
all_members G H list d listed into = λ k e less.
    let cell = get_or list k origin in
    ap (λ (c : Cell). contains H (plus c d)) (get_or_default list k e origin less)
    ∙ into cell (contains-cells G cell ∙ ap (λ cs. has cs cell) (sym listed) ∙ has_listed list k less)

-- the bits of a word from bit s on, with ones beyond its end
pub beside_one : (word s j : ℕ) → j < 64 → (s + j < 64 → bit_at word (s + j) ≡ 1) → bit_at (bit_or (word / 2 ^ s) (bit_not w64 ((2 ^ 64 - 1) / 2 ^ s))) j ≡ 1
beside_one word s j inside each =
    let ones : ℕ = (2 ^ 64 - 1) / 2 ^ s in
    let word_bit : bit_at (word / 2 ^ s) j < 2 = bit_at-lt (word / 2 ^ s) j in
    let ones_bit : bit_at (bit_not w64 ones) j < 2 = bit_at-lt (bit_not w64 ones) j in
    bit_at_or (word / 2 ^ s) (bit_not w64 ones) j
    ∙ ⊎_elim
    (λ (near : s + j < 64). let set : bit_at (word / 2 ^ s) j ≡ 1 = bit_at_rest word s j ∙ each near in either_one _ _ word_bit ones_bit (inl set))
    (λ (far : 64 ≤ s + j).
    let some : 0 < 2 ^ s = pow_pos s in
    let fits : ones < 2 ^ 64 = omega arith in
    let clear : bit_at ones j ≡ 0 = bit_at_rest (2 ^ 64 - 1) s j ∙ bit_at_ones_above 64 (s + j) far in
    either_one _ _ word_bit ones_bit (inr (bit_at_not w64 ones j fits inside ∙ ap (λ n. 1 - n) clear)))
    (cases_lt (s + j) 64)
  where
    either_one : (a b : ℕ) → a < 2 → b < 2 → (a ≡ 1) ⊎ (b ≡ 1) → max a b ≡ 1
    either_one a b p q one = ⊎_elim (λ (first : a ≡ 1). omega arith) (λ (second : b ≡ 1). omega arith) one
