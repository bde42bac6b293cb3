-- Where the first LF of a text is.
use Rattle.std.proofs.Common.{◌≡◌, ℕ, ◌+◌, suc, Bool, true, false, cond, not, eqb, List, [], ◌∷◌, ◌++◌, take, drop, length, ap, refl, arith, ltb, Some, None}
use Rattle.std.specs.List.{position_or_len}
use Rattle.std.specs.Prelude.{position}
use Rattle.std.proofs.lemmas.Bool.{eqb-true, eqb-false}
use Rattle.census_readback.specs.Texts.{HasNoFeed}
use Rattle.census_rows.proofs.Blanks.{drop-one_more, take-one_more}

no-feed-before : (bs : List ℕ) → HasNoFeed (take (position_or_len (λ b. eqb b 10) bs) bs)
no-feed-before [] = tt
no-feed-before (b ∷ bs) =
    let cases : (v : Bool) → eqb b 10 ≡ v → HasNoFeed (take (cond (not v) (1 + position_or_len (λ b. eqb b 10) bs) 0) (b ∷ bs)) = λ v. elim v as (λ v. eqb b 10 ≡ v → HasNoFeed (take (cond (not v) (1 + position_or_len (λ b. eqb b 10) bs) 0) (b ∷ bs))) [
      | true ↦ λ e. tt
      | false ↦ λ e. rw (take-one_more (position_or_len (λ b. eqb b 10) bs) b bs) (eqb-false b 10 e, no-feed-before bs)
    ] in
    cases (eqb b 10) refl

-- what begins with LF
abbrev BeginsFeed : List ℕ → Type 0
BeginsFeed bs = bs ≡ 10 ∷ drop 1 bs

feed-at : (bs : List ℕ) → ltb (position_or_len (λ b. eqb b 10) bs) (length bs) ≡ true → BeginsFeed (drop (position_or_len (λ b. eqb b 10) bs) bs)
feed-at [] h = cc
feed-at (b ∷ bs) h =
    let n = position_or_len (λ b. eqb b 10) bs in
    let cases : (v : Bool) → eqb b 10 ≡ v → ltb (cond (not v) (1 + n) 0) (suc (length bs)) ≡ true → BeginsFeed (drop (cond (not v) (1 + n) 0) (b ∷ bs)) =
    λ v. elim v as (λ v. eqb b 10 ≡ v → ltb (cond (not v) (1 + n) 0) (suc (length bs)) ≡ true → BeginsFeed (drop (cond (not v) (1 + n) 0) (b ∷ bs))) [
      | true ↦ λ e k. ap (λ w. w ∷ bs) (eqb-true b 10 e)
      | false ↦ λ e k. rw (drop-one_more n b bs) (feed-at bs (let less : ltb n (length bs) ≡ true = grind arith in less))
    ] in
    cases (eqb b 10) refl h

-- the first LF, and what is around it
pub some-feed : (bs : List ℕ) (at : ℕ) → position (λ b. eqb b 10) bs ≡ Some at → HasNoFeed (take at bs) × (drop at bs ≡ 10 ∷ drop 1 (drop at bs))
some-feed bs at e =
    let n = position_or_len (λ b. eqb b 10) bs in
    let cases : (v : Bool) → ltb n (length bs) ≡ v → cond v (Some n) None ≡ Some at → HasNoFeed (take at bs) × BeginsFeed (drop at bs) =
    λ v. elim v as (λ v. ltb n (length bs) ≡ v → cond v (Some n) None ≡ Some at → HasNoFeed (take at bs) × BeginsFeed (drop at bs)) [
      | true ↦ λ h k. (let same : at ≡ n = cc in rw same (no-feed-before bs, feed-at bs h))
      | false ↦ λ h k. absurd (cc)
    ] in
    cases (ltb n (length bs)) refl e

plain : (bs : List ℕ) → ltb (position_or_len (λ b. eqb b 10) bs) (length bs) ≡ false → HasNoFeed bs
plain [] h = tt
plain (b ∷ bs) h =
    let n = position_or_len (λ b. eqb b 10) bs in
    let cases : (v : Bool) → eqb b 10 ≡ v → ltb (cond (not v) (1 + n) 0) (suc (length bs)) ≡ false → HasNoFeed (b ∷ bs) =
    λ v. elim v as (λ v. eqb b 10 ≡ v → ltb (cond (not v) (1 + n) 0) (suc (length bs)) ≡ false → HasNoFeed (b ∷ bs)) [
      | true ↦ λ e k. absurd (let less : ltb 0 (suc (length bs)) ≡ true = grind arith in cc)
      | false ↦ λ e k. (eqb-false b 10 e, plain bs (let less : ltb n (length bs) ≡ false = grind arith in less))
    ] in
    cases (eqb b 10) refl h

-- no LF at all
pub no-feed : (bs : List ℕ) → position (λ b. eqb b 10) bs ≡ None → HasNoFeed bs
no-feed bs e =
    let n = position_or_len (λ b. eqb b 10) bs in
    let cases : (v : Bool) → ltb n (length bs) ≡ v → cond v (Some n) None ≡ None → HasNoFeed bs =
    λ v. elim v as (λ v. ltb n (length bs) ≡ v → cond v (Some n) None ≡ None → HasNoFeed bs) [
      | true ↦ λ h k. absurd (cc)
      | false ↦ λ h k. plain bs h
    ] in
    cases (ltb n (length bs)) refl e

-- a text without LF has no line
pub no-line : (a x : List ℕ) → HasNoFeed (a ++ 10 ∷ x) → ⊥
no-line [] x h = h.0 refl
no-line (b ∷ a) x h = no-line a x h.1

-- a text has one line at its front
pub one-line : (a b x y : List ℕ) → HasNoFeed a → HasNoFeed b → a ++ 10 ∷ x ≡ b ++ 10 ∷ y → (a ≡ b) × (x ≡ y)
one-line [] [] x y ha hb e = (refl, cc)
one-line [] (c ∷ b) x y ha hb e = absurd (hb.0 (let h : c ≡ 10 = cc in h))
one-line (c ∷ a) [] x y ha hb e = absurd (ha.0 (let h : c ≡ 10 = cc in h))
one-line (c ∷ a) (d ∷ b) x y ha hb e =
    let heads : c ≡ d = cc in
    let tails : a ++ 10 ∷ x ≡ b ++ 10 ∷ y = cc in
    let rest = one-line a b x y ha.1 hb.1 tails in
    let lines : c ∷ a ≡ d ∷ b = cc in
    (lines, rest.1)
