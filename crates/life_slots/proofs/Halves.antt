-- Words of 64 bits made of two halves, and the middle of a word.
use Rattle.std.proofs.Common.{◌≡◌, ℕ, ◌+◌, ◌-◌, ◌*◌, ◌/◌, ◌%◌, ◌^◌, ◌<◌, bit_or, bit_and, ap, ◌∙◌, add_comm, arith}
use Rattle.std.specs.Int.{bit_at}
use Rattle.std.proofs.lemmas.Nat.{pow_pos}
use Rattle.std.proofs.lemmas.Nat.Bits.{bit_at-lt, bit_at_and, bit_at_or, bit_at_above, bit_at_cat_low, bit_at_cat_high, bit_at_ones, bit_at-zero}
use Rattle.life_plane.proofs.Strips.{bit_at_mod}
use Rattle.life_slots.proofs.Bits.{bit_at_rest}

-- a bit of the eastern half, moved up
moved_low : (east x : ℕ) → x < 32 → bit_at (east * 2 ^ 32 % 2 ^ 64) x ≡ 0
moved_low east x small =
    let none : east * 2 ^ 32 ≡ east * 2 ^ 32 + 0 = omega arith in
    bit_at_mod (east * 2 ^ 32) 64 x (omega arith) ∙ ap (λ v. bit_at v x) none ∙ bit_at_cat_low east 32 0 x small ∙ bit_at-zero x

moved_high : (east x : ℕ) → x < 32 → bit_at (east * 2 ^ 32 % 2 ^ 64) (x + 32) ≡ bit_at east x
moved_high east x small =
    let none : east * 2 ^ 32 ≡ east * 2 ^ 32 + 0 = omega arith in
    let back : x + 32 - 32 ≡ x = omega arith in
    bit_at_mod (east * 2 ^ 32) 64 (x + 32) (omega arith)
    ∙ ap (λ v. bit_at v (x + 32)) none
    ∙ bit_at_cat_high east 32 0 (x + 32) (pow_pos 32) (omega arith)
    ∙ ap (bit_at east) back

pub joined_west : (west east x : ℕ) → x < 32 → bit_at (bit_or west (east * 2 ^ 32 % 2 ^ 64)) x ≡ bit_at west x
joined_west west east x small = bit_at_or west (east * 2 ^ 32 % 2 ^ 64) x ∙ omega (arith, moved_low east x small)

pub joined_east : (west east x : ℕ) → west < 2 ^ 32 → x < 32 → bit_at (bit_or west (east * 2 ^ 32 % 2 ^ 64)) (x + 32) ≡ bit_at east x
joined_east west east x fits small =
    bit_at_or west (east * 2 ^ 32 % 2 ^ 64) (x + 32)
    ∙ omega (arith, moved_high east x small, bit_at_above west 32 (x + 32) fits (omega arith))

pub middle_bit : (row x : ℕ) → x < 32 → bit_at (bit_and (row / 2 ^ 16) (2 ^ 32 - 1)) x ≡ bit_at row (x + 16)
middle_bit row x small =
    bit_at_and (row / 2 ^ 16) (2 ^ 32 - 1) x
    ∙ omega (arith, bit_at_ones 32 x small, bit_at-lt (row / 2 ^ 16) x)
    ∙ bit_at_rest row 16 x ∙ ap (bit_at row) (add_comm 16 x)
