-- Where the first blank of a text is.
use Rattle.std.proofs.Common.{◌≡◌, ℕ, ◌+◌, suc, Bool, true, false, cond, not, eqb, List, [], ◌∷◌, ◌++◌, take, drop, length, sym, refl, arith, subst, ◌≤◌, ltb, Some, None, decimal, ◌<◌, ◌^◌, ℤ, pos, FitsSigned, w64}
use lib.IntN.{negsuc}
use Rattle.std.specs.Fmt.{signed_decimal}
use Rattle.std.specs.Str.Parse.{AllDigits}
use Rattle.std.proofs.lemmas.Fmt.{decimal_is_IsNumeral}
use Rattle.std.proofs.lemmas.Str.Parse.{digit_from_value}
use Rattle.std.specs.List.{position_or_len}
use Rattle.std.specs.Prelude.{position}
use Rattle.std.specs.Option.{unwrap_or}
use Rattle.std.proofs.lemmas.Bool.{eqb-true, eqb-false}
use Rattle.census_rows.specs.Lines.{HasNoBlank, EndsField}

abbrev is_blank : ℕ → Bool
is_blank b = eqb b 32

pub take-one_more : (n : ℕ) (b : ℕ) (bs : List ℕ) → take (1 + n) (b ∷ bs) ≡ b ∷ take n bs
take-one_more n b bs = let e : 1 + n ≡ suc n = omega arith in rw e refl

pub drop-one_more : (n : ℕ) (b : ℕ) (bs : List ℕ) → drop (1 + n) (b ∷ bs) ≡ drop n bs
drop-one_more n b bs = let e : 1 + n ≡ suc n = omega arith in rw e refl

pub no-blank-before : (bs : List ℕ) → HasNoBlank (take (position_or_len (λ b. eqb b 32) bs) bs)
no-blank-before [] = tt
no-blank-before (b ∷ bs) =
    let cases : (v : Bool) → eqb b 32 ≡ v → HasNoBlank (take (cond (not v) (1 + position_or_len (λ b. eqb b 32) bs) 0) (b ∷ bs)) = λ v. elim v as (λ v. eqb b 32 ≡ v → HasNoBlank (take (cond (not v) (1 + position_or_len (λ b. eqb b 32) bs) 0) (b ∷ bs))) [
      | true ↦ λ e. tt
      | false ↦ λ e. rw (take-one_more (position_or_len (λ b. eqb b 32) bs) b bs) (eqb-false b 32 e, no-blank-before bs)
    ] in
    cases (eqb b 32) refl

pub blank-at : (bs : List ℕ) → EndsField (drop (position_or_len (λ b. eqb b 32) bs) bs)
blank-at [] = tt
blank-at (b ∷ bs) =
    let cases : (v : Bool) → eqb b 32 ≡ v → EndsField (drop (cond (not v) (1 + position_or_len (λ b. eqb b 32) bs) 0) (b ∷ bs)) = λ v. elim v as (λ v. eqb b 32 ≡ v → EndsField (drop (cond (not v) (1 + position_or_len (λ b. eqb b 32) bs) 0) (b ∷ bs))) [
      | true ↦ λ e. eqb-true b 32 e
      | false ↦ λ e. rw (drop-one_more (position_or_len (λ b. eqb b 32) bs) b bs) (blank-at bs)
    ] in
    cases (eqb b 32) refl

-- four bytes that are no blanks
pub four : (a b c d : ℕ) → (a ≡ 32 → ⊥) → (b ≡ 32 → ⊥) → (c ≡ 32 → ⊥) → (d ≡ 32 → ⊥) → HasNoBlank (a ∷ b ∷ c ∷ d ∷ [])
four a b c d p q r s = (p, (q, (r, (s, tt))))

-- a text has one field at its front
pub one-field : (a b x y : List ℕ) → HasNoBlank a → HasNoBlank b → EndsField x → EndsField y → a ++ x ≡ b ++ y → (a ≡ b) × (x ≡ y)
one-field [] [] x y ha hb hx hy e = (refl, e)
one-field [] (c ∷ b) x y ha hb hx hy e = absurd (hb.0 (let h = subst EndsField e hx in h))
one-field (c ∷ a) [] x y ha hb hx hy e = absurd (ha.0 (let h = subst EndsField (sym e) hy in h))
one-field (c ∷ a) (d ∷ b) x y ha hb hx hy e =
    let heads : c ≡ d = cc in
    let tails : a ++ x ≡ b ++ y = cc in
    let rest = one-field a b x y ha.1 hb.1 hx hy tails in
    let fields : c ∷ a ≡ d ∷ b = cc in
    (fields, rest.1)

bound : (bs : List ℕ) → position_or_len (λ b. eqb b 32) bs ≤ length bs
bound [] = omega arith
bound (b ∷ bs) =
    let rest = bound bs in
    let P : Bool → Type 0 = λ v. cond (not v) (1 + position_or_len (λ b. eqb b 32) bs) 0 ≤ suc (length bs) in
    elim (eqb b 32) as (λ v. P v) [ true ↦ omega arith | false ↦ omega arith ]

-- the first blank, or the end
pub first-or-end : (bs : List ℕ) → unwrap_or (position (λ b. eqb b 32) bs) (length bs) ≡ position_or_len (λ b. eqb b 32) bs
first-or-end bs =
    let n = position_or_len (λ b. eqb b 32) bs in
    let most = bound bs in
    let cases : (v : Bool) → ltb n (length bs) ≡ v → unwrap_or (cond v (Some n) None) (length bs) ≡ n = λ v. elim v as (λ v. ltb n (length bs) ≡ v → unwrap_or (cond v (Some n) None) (length bs) ≡ n) [
      | true ↦ λ e. refl
      | false ↦ λ e. grind (arith)
    ] in
    cases (ltb n (length bs)) refl

pub place-bound : (bs : List ℕ) → unwrap_or (position (λ b. eqb b 32) bs) (length bs) ≤ length bs
place-bound bs = rw (first-or-end bs) (bound bs)

digits-plain : (ds : List ℕ) → AllDigits 10 ds → HasNoBlank ds
digits-plain [] h = tt
digits-plain (d ∷ ds) h = (λ e. (let range = digit_from_value d h.0 in omega arith), digits-plain ds h.1)

-- no text of a number has a blank
pub decimal-plain : (n : ℕ) → n < 2 ^ 64 → HasNoBlank (decimal n)
decimal-plain n small = digits-plain (decimal n) (decimal_is_IsNumeral n small).0.1

pub signed-plain : (z : ℤ) → FitsSigned w64 z → HasNoBlank (signed_decimal z)
signed-plain (pos n) h = decimal-plain n (omega (arith, h))
signed-plain (negsuc n) h = (λ e. omega arith, decimal-plain (suc n) (omega (arith, h)))
