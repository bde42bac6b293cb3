-- One cell of a tile or a leaf made live or dead, and a tile or a leaf without a live cell, for rows of any width.
use Rattle.std.proofs.Common.{◌≡◌, ◌≢◌, ℕ, ◌^◌, ◌<◌, ◌⊎◌, List, length, get_or, set, replicate, slice_index, slice_set, get_or-set_other, get_or-set_same, refl, sym, ap, ◌∙◌, ⊎_elim, arith}
use Rattle.std.specs.Int.{bit_at}
use Rattle.std.proofs.lemmas.Nat.Bits.{same_from_bits_below, bit_at-zero}
use Rattle.std.proofs.lemmas.Bool.{cases_eq, cases_lt}
use Rattle.std.proofs.lemmas.List.{get_or-replicate, get_or_past, length-replicate}

-- the bit in column x of row y, once row y has become v
pub put_same : (rows : List ℕ) (x y v b : ℕ) → y < length rows → bit_at v x ≡ b → bit_at (slice_index (slice_set rows y v) y) x ≡ b
put_same rows x y v b room is =
    let same : get_or (set rows y v) y 0 ≡ v = rw get_or-set_same in
    ap (λ w. bit_at w x) same ∙ is

-- any other bit
pub put_other : (wide : ℕ) (rows : List ℕ) (x y v p q : ℕ) → y < length rows → p < wide → (p ≢ x) ⊎ (q ≢ y) →
    ((i : ℕ) → i < wide → i ≢ x → bit_at v i ≡ bit_at (slice_index rows y) i) →
    bit_at (slice_index (slice_set rows y v) q) p ≡ bit_at (slice_index rows q) p
put_other wide rows x y v p q room column apart kept =
    ⊎_elim
    (λ one.
    let same : get_or (set rows y v) q 0 ≡ v = rw one (rw get_or-set_same) in
    let row_is : slice_index rows y ≡ slice_index rows q = ap (slice_index rows) (sym one) in
    ap (λ w. bit_at w p) same
    ∙ ⊎_elim
    (λ (other : p ≢ x). kept p column other ∙ ap (λ w. bit_at w p) row_is)
    (λ (other : q ≢ y). absurd (other one))
    apart)
    (λ (other : q ≢ y). let same : get_or (set rows y v) q 0 ≡ get_or rows q 0 = rw get_or-set_other in ap (λ w. bit_at w p) same)
    (cases_eq q y)

pub zero_from_bits : (wide n : ℕ) → n < 2 ^ wide → ((x : ℕ) → x < wide → bit_at n x ≡ 0) → n ≡ 0
zero_from_bits wide n fits none = same_from_bits_below wide n 0 fits (omega arith) (λ x below. none x below ∙ sym (bit_at-zero x))

pub bits_from_zero : (n x : ℕ) → n ≡ 0 → bit_at n x ≡ 0
bits_from_zero n x is = ap (λ w. bit_at w x) is ∙ bit_at-zero x

-- a list of zeros has no bit
pub zero_in : (n y a : ℕ) → a ≡ 0 → get_or (replicate n a) y 0 ≡ 0
zero_in n y a is =
    ⊎_elim
    (λ inside. get_or-replicate n y a 0 inside ∙ is)
    (λ past. get_or_past (replicate n a) y 0 (let count : length (replicate n a) ≡ n = length-replicate n a in omega arith))
    (cases_lt y n)

pub no_cell : (high x y : ℕ) → bit_at (slice_index (replicate high 0) y) x ≡ 0
no_cell high x y = bits_from_zero _ x (zero_in high y 0 refl)
