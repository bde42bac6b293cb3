-- Places that are padded.
use Rattle.std.proofs.Common.{◌≡◌, ℕ, ◌+◌, ◌-◌, ◌≤◌, max, List, [], ◌∷◌, ◌++◌, append_assoc, get_or, length, replicate, set, ap, ◌∙◌, sym, arith, length-append}
use Rattle.std.proofs.lemmas.List.{append-nil, get_or_default, length-replicate, replicate-append-replicate, set-set}
use Rattle.census_readback.specs.declared.place.Place.{Place}
use Rattle.census_readback.specs.declared.place.Place.TheVariants.{Before}
use Rattle.census_readback.specs.Steps.{padded_places, place_at, with_place}
use Rattle.census_readback.proofs.Kept.{get-padded}

pub padded-none : (xs : List Place) → xs ≡ padded_places xs (length xs)
padded-none xs = let e : length xs - length xs ≡ 0 = omega arith in rw e (sym (append-nil xs))

pub padded-more : (xs ys : List Place) (n : ℕ) → length xs ≤ n → ys ≡ padded_places xs n → ys ++ Before ∷ [] ≡ padded_places xs (n + 1)
padded-more xs ys n least e =
    let more : (n - length xs) + 1 ≡ (n + 1) - length xs = omega arith in
    let one : replicate (n - length xs) Before ++ Before ∷ [] ≡ replicate ((n - length xs) + 1) Before = replicate-append-replicate (n - length xs) 1 Before in
    ap (λ w. w ++ Before ∷ []) e ∙ append_assoc xs (replicate (n - length xs) Before) (Before ∷ []) ∙ ap (λ w. xs ++ w) (one ∙ ap (λ k. replicate k Before) more)

pub padded-length : (xs : List Place) (n : ℕ) → n ≤ length (padded_places xs n)
padded-length xs n = omega (arith, length-append xs (replicate (n - length xs) Before), length-replicate (n - length xs) Before)

-- padded as far as needed, and no further
pub padded-enough : (xs : List Place) (n count : ℕ) → length xs ≤ n → n ≤ max count (length xs) → count ≤ n → padded_places xs n ≡ padded_places xs count
padded-enough xs n count least most enough = let e : n - length xs ≡ count - length xs = omega arith in ap (λ k. xs ++ replicate k Before) e

-- the place that is taken out
pub taken-out : (xs ys : List Place) (i : ℕ) (p : Place) → ys ≡ padded_places xs (i + 1) → p ≡ get_or ys i p → p ≡ place_at xs i
taken-out xs ys i p padded out =
    out ∙ ap (λ zs. get_or zs i p) padded ∙ get_or_default (padded_places xs (i + 1)) i p Before (omega (arith, padded-length xs (i + 1)))
    ∙ get-padded xs ((i + 1) - length xs) i

-- another place is put there
pub put-back : (xs ys : List Place) (i : ℕ) (none p : Place) → ys ≡ padded_places xs (i + 1) → set (set ys i none) i p ≡ with_place xs i p
put-back xs ys i none p padded = set-set ys i none p ∙ ap (λ zs. set zs i p) padded
