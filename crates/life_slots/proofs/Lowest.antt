-- A word without its lowest set bit.
use Rattle.std.proofs.Common.{◌≡◌, ◌≢◌, ℕ, ◌+◌, ◌*◌, ◌%◌, ◌^◌, ◌<◌, ◌≤◌, ⊎_elim, w64, bit_and, sym, ap, ◌∙◌, arith}
use Rattle.std.specs.Int.{bit_at, bit_not, trailing_zeros}
use Rattle.std.specs.Int.Count.{trailing_of_zero}
use Rattle.std.proofs.lemmas.Bool.{cases_eq, cases_lt}
use Rattle.std.proofs.lemmas.Nat.{and_le_l}
use Rattle.std.proofs.lemmas.Nat.Bits.{bit_at-zero, bit_at-trailing_zeros, bit_at_clear_same, bit_at_clear_other}
use Rattle.life_slots.proofs.EndCells.{one_is_not_none}

abbrev pub without_lowest : ℕ → ℕ
without_lowest word = bit_and word (bit_not w64 (1 * 2 ^ trailing_zeros w64 word % 2 ^ 64))

-- from the first bit that is left on, what is left is the word
abbrev pub IsRest : ℕ → ℕ → Type 0
IsRest word rest = (j : ℕ) → j < 64 → trailing_zeros w64 rest ≤ j → bit_at rest j ≡ bit_at word j

pub none_left : (rest : ℕ) → rest ≡ 0 → trailing_zeros w64 rest ≡ 64
none_left rest none = ap (trailing_zeros w64) none ∙ trailing_of_zero 64

-- no bit before the lowest is set
pub none_before : (word : ℕ) → word < 2 ^ 64 → (j : ℕ) → j < trailing_zeros w64 word → bit_at word j ≡ 0
none_before word fits j before =
    ⊎_elim
    (λ (none : word ≡ 0). ap (λ w. bit_at w j) none ∙ bit_at-zero j)
    (λ (more : word ≢ 0). (bit_at-trailing_zeros w64 word (omega arith) fits).2 j before)
    (cases_eq word 0)

module _ (word rest : ℕ) (fits : rest < 2 ^ 64) (some : 0 < rest) (same : IsRest word rest) where
  abbrev x : ℕ
  x = trailing_zeros w64 rest

  abbrev next : ℕ
  next = without_lowest rest

  next_fits : next < 2 ^ 64
  next_fits =
      let less : next ≤ rest = and_le_l rest (bit_not w64 (1 * 2 ^ trailing_zeros w64 rest % 2 ^ 64)) in
      omega arith

  pub inside : x < 64
  inside = (bit_at-trailing_zeros w64 rest some fits).0

  pub set_there : bit_at word x ≡ 1
  set_there = let here : x ≤ x = omega arith in sym (same x inside here) ∙ (bit_at-trailing_zeros w64 rest some fits).1

  others : (j : ℕ) → j < 64 → j ≢ x → bit_at next j ≡ bit_at rest j
  others j small apart = bit_at_clear_other w64 rest x inside j small apart

  not_before : (j : ℕ) → j ≤ x → bit_at next j ≡ 0
  not_before j less =
      ⊎_elim
      (λ (here : j ≡ x). ap (bit_at next) here ∙ bit_at_clear_same w64 rest x inside)
      (λ (apart : j ≢ x). let small : j < 64 = (let h = inside in omega arith) in others j small apart ∙ (bit_at-trailing_zeros w64 rest some fits).2 j (omega arith))
      (cases_eq j x)

  pub goes_on : x + 1 ≤ trailing_zeros w64 next
  goes_on =
      ⊎_elim
      (λ (none : next ≡ 0). let end : trailing_zeros w64 next ≡ 64 = none_left next none in let h = inside in omega arith)
      (λ (more : next ≢ 0).
      let first = bit_at-trailing_zeros w64 next (omega arith) next_fits in
      ⊎_elim (λ (past : x < trailing_zeros w64 next). omega arith)
      (λ (before : trailing_zeros w64 next ≤ x). absurd (one_is_not_none _ first.1 (not_before (trailing_zeros w64 next) before)))
      (cases_lt x (trailing_zeros w64 next)))
      (cases_eq next 0)

  pub none_between : (j : ℕ) → x + 1 ≤ j → j < trailing_zeros w64 next → j < 64 → bit_at word j ≡ 0
  none_between j past before small =
      let apart : j ≢ x = omega arith in
      sym (same j small (omega arith)) ∙ sym (others j small apart) ∙ none_before next next_fits j before

  pub same_on : IsRest word next
  same_on j small from =
      let h = goes_on in
      let apart : j ≢ x = omega arith in
      others j small apart ∙ same j small (omega arith)
