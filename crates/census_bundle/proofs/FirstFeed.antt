-- The first line feed of a text ends its first line.
use Rattle.std.proofs.Common.{◌≡◌, ℕ, zero, suc, ◌<◌, true, false, List, [], ◌∷◌, length, Some, None, eqb, refl, ap, arith, if◌then◌else◌}
use Rattle.memchr.specs.Find.{IsFirstByte, Nowhere, Passes, is_byte}
use Rattle.census_bundle.specs.Scan.{line_len}

-- a text without a line feed is one line
one_line : (text : List ℕ) → Nowhere (Passes (is_byte 10) text) 0 (length text) → line_len text ≡ length text
one_line [] none = refl
one_line (c ∷ rest) none =
    let later = one_line rest (λ k low high. none (suc k) (omega arith) (omega arith)) in
    let first : ¬ (eqb c 10 ≡ true) = none 0 (omega arith) (omega arith) in
    (elim (eqb c 10) as (λ v. ¬ (v ≡ true) → (if v then 1 else suc (line_len rest)) ≡ suc (length rest)) [
      | true ↦ λ no. absurd (no refl)
      | false ↦ λ no. ap suc later
    ]) first

-- the first line feed of a text ends its first line
line_to : (text : List ℕ) (k : ℕ) → k < length text → Passes (is_byte 10) text k → Nowhere (Passes (is_byte 10) text) 0 k → line_len text ≡ suc k
line_to [] k within feed before = absurd (omega arith)
line_to (c ∷ rest) zero within feed before = ap (λ v. if v then 1 else suc (line_len rest)) feed
line_to (c ∷ rest) (suc k) within feed before =
    let later = line_to rest k (omega arith) feed (λ j low high. before (suc j) (omega arith) (omega arith)) in
    let first : ¬ (eqb c 10 ≡ true) = before 0 (omega arith) (omega arith) in
    (elim (eqb c 10) as (λ v. ¬ (v ≡ true) → (if v then 1 else suc (line_len rest)) ≡ suc (suc k)) [
      | true ↦ λ no. absurd (no refl)
      | false ↦ λ no. ap suc later
    ]) first

pub line_len-none : (text : List ℕ) → IsFirstByte (is_byte 10) text None → line_len text ≡ length text
line_len-none text none = one_line text none

pub line_len-some : (text : List ℕ) (k : ℕ) → IsFirstByte (is_byte 10) text (Some k) → line_len text ≡ suc k
line_len-some text k found = line_to text k found.0.high found.1 found.0.before
