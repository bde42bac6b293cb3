-- Bits of three rows side by side, and of a row moved by one with the edge bit of its neighbour.
use Rattle.std.proofs.Common.{◌≡◌, ℕ, zero, suc, ◌+◌, ◌*◌, ◌<◌, ◌%◌, ◌/◌, ◌^◌, ⊎_elim, bit_or, max, sym, ◌∙◌, ap, subst, arith}
use Rattle.std.specs.Int.{bit_at}
use Rattle.std.proofs.lemmas.Nat.{shr_split}
use Rattle.std.proofs.lemmas.Bool.{cases_lt}
use Rattle.std.proofs.lemmas.Nat.Bits.{bit_at_or, bit_at-suc, bit_at-zero, bit_at_above, bit_at_cat_low, bit_at_cat_high}
use Rattle.life_plane.specs.Bits.{wide_row}

-- the low k bits of a number
pub bit_at_mod : (n k i : ℕ) → i < k → bit_at (n % 2 ^ k) i ≡ bit_at n i
bit_at_mod n k i below =
    sym (bit_at_cat_low (n / 2 ^ k) k (n % 2 ^ k) i below) ∙ ap (λ m. bit_at m i) (shr_split n k)

word : (n : ℕ) → n % 2 ^ 64 < 2 ^ 64
word n = omega arith

pub strip_low : (left row right i : ℕ) → i < 64 → bit_at (wide_row left row right) i ≡ bit_at left i
strip_low left row right i below =
    bit_at_cat_low (right % 2 ^ 64 * 2 ^ 64 + row % 2 ^ 64) 64 (left % 2 ^ 64) i below ∙ bit_at_mod left 64 i below

pub strip_middle : (left row right i : ℕ) → i < 64 → bit_at (wide_row left row right) (i + 64) ≡ bit_at row i
strip_middle left row right i below =
    bit_at_cat_high (right % 2 ^ 64 * 2 ^ 64 + row % 2 ^ 64) 64 (left % 2 ^ 64) (i + 64) (word left) (omega arith)
    ∙ ap (bit_at (right % 2 ^ 64 * 2 ^ 64 + row % 2 ^ 64)) (omega arith)
    ∙ bit_at_cat_low (right % 2 ^ 64) 64 (row % 2 ^ 64) i below
    ∙ bit_at_mod row 64 i below

pub strip_high : (left row right i : ℕ) → i < 64 → bit_at (wide_row left row right) (i + 128) ≡ bit_at right i
strip_high left row right i below =
    bit_at_cat_high (right % 2 ^ 64 * 2 ^ 64 + row % 2 ^ 64) 64 (left % 2 ^ 64) (i + 128) (word left) (omega arith)
    ∙ ap (bit_at (right % 2 ^ 64 * 2 ^ 64 + row % 2 ^ 64)) (omega arith)
    ∙ bit_at_cat_high (right % 2 ^ 64) 64 (row % 2 ^ 64) (i + 64) (word row) (omega arith)
    ∙ ap (bit_at (right % 2 ^ 64)) (omega arith)
    ∙ bit_at_mod right 64 i below

pub max_zero_left : (a b c : ℕ) → a ≡ 0 → b ≡ c → max a b ≡ c
max_zero_left a b c p q = omega arith

pub max_zero_right : (a b c : ℕ) → b ≡ 0 → a ≡ c → max a b ≡ c
max_zero_right a b c p q = omega arith

halved : (row : ℕ) → row * 2 % 2 ^ 64 / 2 ≡ row % 2 ^ 63
halved row = omega arith

even : (row : ℕ) → bit_at (row * 2 % 2 ^ 64) 0 ≡ 0
even row = omega arith

top_bit : (left : ℕ) → bit_at (left / 2 ^ 63) 0 ≡ bit_at left 63
top_bit left = omega arith

top_is_one_bit : (left : ℕ) → left < 2 ^ 64 → left / 2 ^ 63 < 2 ^ 1
top_is_one_bit left fits = omega arith

pub west_at : (left row right j : ℕ) → left < 2 ^ 64 → j < 64 →
    bit_at (bit_or (row * 2 % 2 ^ 64) (left / 2 ^ 63)) j ≡ bit_at (wide_row left row right) (j + 63)
west_at left row right zero fits below =
    bit_at_or (row * 2 % 2 ^ 64) (left / 2 ^ 63) 0
    ∙ max_zero_left _ _ _ (even row) (top_bit left ∙ sym (strip_low left row right 63 (omega arith)))
west_at left row right (suc i) fits below =
    bit_at_or (row * 2 % 2 ^ 64) (left / 2 ^ 63) (suc i)
    ∙ max_zero_right _ _ _
    (bit_at_above (left / 2 ^ 63) 1 (suc i) (top_is_one_bit left fits) (omega arith))
    (bit_at-suc (row * 2 % 2 ^ 64) i
    ∙ ap (λ n. bit_at n i) (halved row)
    ∙ bit_at_mod row 63 i (omega arith)
    ∙ sym (strip_middle left row right i (omega arith))
    ∙ ap (bit_at (wide_row left row right)) (omega arith))

low_of_shifted : (right j : ℕ) → j < 63 → bit_at (right * 2 ^ 63 % 2 ^ 64) j ≡ 0
low_of_shifted right j below =
    bit_at_mod (right * 2 ^ 63) 64 j (omega arith)
    ∙ ap (λ n. bit_at n j) (omega arith)
    ∙ bit_at_cat_low right 63 0 j below
    ∙ bit_at-zero j

top_of_shifted : (right : ℕ) → bit_at (right * 2 ^ 63 % 2 ^ 64) 63 ≡ bit_at right 0
top_of_shifted right = omega arith

east_inside : (left row right j : ℕ) → left < 2 ^ 64 → j < 63 →
    bit_at (bit_or (row / 2) (right * 2 ^ 63 % 2 ^ 64)) j ≡ bit_at (wide_row left row right) (j + 65)
east_inside left row right j fits below =
    bit_at_or (row / 2) (right * 2 ^ 63 % 2 ^ 64) j
    ∙ max_zero_right _ _ _ (low_of_shifted right j below)
    (sym (bit_at-suc row j)
    ∙ sym (strip_middle left row right (suc j) (omega arith))
    ∙ ap (bit_at (wide_row left row right)) (omega arith))

halved_top : (row : ℕ) → row < 2 ^ 64 → row / 2 < 2 ^ 63
halved_top row fits = omega arith

east_edge : (left row right : ℕ) → left < 2 ^ 64 → row < 2 ^ 64 →
    bit_at (bit_or (row / 2) (right * 2 ^ 63 % 2 ^ 64)) 63 ≡ bit_at (wide_row left row right) 128
east_edge left row right left_fits row_fits =
    bit_at_or (row / 2) (right * 2 ^ 63 % 2 ^ 64) 63
    ∙ max_zero_left _ _ _
    (bit_at_above (row / 2) 63 63 (halved_top row row_fits) (omega arith))
    (top_of_shifted right ∙ sym (strip_high left row right 0 (omega arith)))

pub east_at : (left row right j : ℕ) → left < 2 ^ 64 → row < 2 ^ 64 → j < 64 →
    bit_at (bit_or (row / 2) (right * 2 ^ 63 % 2 ^ 64)) j ≡ bit_at (wide_row left row right) (j + 65)
east_at left row right j left_fits row_fits below =
    ⊎_elim
    (λ inside. east_inside left row right j left_fits inside)
    (λ edge.
    let last : 63 ≡ j = omega arith in
    let P : ℕ → Type 0 = λ i. bit_at (bit_or (row / 2) (right * 2 ^ 63 % 2 ^ 64)) i ≡ bit_at (wide_row left row right) (i + 65) in
    subst P last (east_edge left row right left_fits row_fits))
    (cases_lt j 63)
