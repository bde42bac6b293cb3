-- Rows without a set bit, eight at a time.
use Rattle.std.proofs.Common.{◌≡◌, ℕ, ◌+◌, ◌-◌, ◌*◌, ◌<◌, ◌≤◌, ⊎_elim, List, slice_index, bit_or, refl, ap, ◌∙◌, arith}
use Rattle.std.proofs.lemmas.Bool.{cases_lt}
use Rattle.std.proofs.lemmas.Nat.{le_or_l, le_or_r}

pub or_none_left : (a b : ℕ) → bit_or a b ≡ 0 → a ≡ 0
or_none_left a b none = omega (arith, le_or_l a b, none)

pub or_none_right : (a b : ℕ) → bit_or a b ≡ 0 → b ≡ 0
or_none_right a b none = omega (arith, le_or_r a b, none)

pub or_none : (a b : ℕ) → a ≡ 0 → b ≡ 0 → bit_or a b ≡ 0
or_none a b left right = (λ i. bit_or (left i) (right i)) ∙ refl

-- eight more rows without a live cell, from the north and from the south
pub void_before : (rows : List ℕ) (band : ℕ) → ((y : ℕ) → y < 8 * band → slice_index rows y ≡ 0) → ((y : ℕ) → y < 8 → slice_index rows (8 * band + y) ≡ 0) →
    (y : ℕ) → y < 8 * (band + 1) → slice_index rows y ≡ 0
void_before rows band before here y less =
    ⊎_elim (λ (old : y < 8 * band). before y old)
    (λ (new : 8 * band ≤ y). let is : y ≡ 8 * band + (y - 8 * band) = omega arith in ap (slice_index rows) is ∙ here (y - 8 * band) (omega arith))
    (cases_lt y (8 * band))

pub void_behind : (rows : List ℕ) (band : ℕ) → ((y : ℕ) → 8 * band + 8 ≤ y → y < 64 → slice_index rows y ≡ 0) → ((y : ℕ) → y < 8 → slice_index rows (8 * band + y) ≡ 0) →
    (y : ℕ) → 8 * band ≤ y → y < 64 → slice_index rows y ≡ 0
void_behind rows band behind here y from inside =
    ⊎_elim
    (λ (new : y < 8 * band + 8). let is : y ≡ 8 * band + (y - 8 * band) = omega arith in ap (slice_index rows) is ∙ here (y - 8 * band) (omega arith))
    (λ (old : 8 * band + 8 ≤ y). behind y old inside)
    (cases_lt y (8 * band + 8))
