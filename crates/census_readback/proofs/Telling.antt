-- What several rows say, one after another.
use Rattle.std.proofs.Common.{◌≡◌, Bool, true, false, Option, Some, None as Nothing, ℕ, List, [], ◌∷◌, ◌++◌, ap, ◌∙◌, refl}
use Rattle.std.specs.Prelude.{if◌then◌else◌}
use Rattle.census_rows.specs.declared.row.Row.{Row}
use Rattle.census_rows.specs.declared.row.Row.TheVariants.{End}
use Rattle.census_readback.specs.Told.{Told, is_told, nothing_told, told_after, told_by}

abbrev pub and_then : Option Told → (Told → Option Told) → Option Told
and_then o go = elim o as (λ _. Option Told) [ Nothing ↦ Nothing | Some u ↦ go u ]

then-some : (o : Option Told) (go : Told → Option Told) (w : Told) → and_then o go ≡ Some w → (u : Told) × (o ≡ Some u) × (go u ≡ Some w)
then-some Nothing go w h = absurd (cc)
then-some (Some u) go w h = (u, refl, h)

then-itself : (o : Option Told) → and_then o (λ u. Some u) ≡ o
then-itself Nothing = refl
then-itself (Some u) = refl

-- the first row, and the others
pub told-first : (v w : Told) (r : Row) (rows : List Row) → told_by v (r ∷ rows) ≡ Some w → (u : Told) × (told_after v r ≡ Some u) × (told_by u rows ≡ Some w)
told-first v w r rows h = then-some (told_after v r) (λ u. told_by u rows) w h

-- one more row
pub told-more : (t v u : Told) (xs : List Row) (r : Row) → told_by t xs ≡ Some v → told_after v r ≡ Some u → told_by t (xs ++ r ∷ []) ≡ Some u
told-more t v u [] r h k =
    let same : t ≡ v = cc in
    then-itself (told_after t r) ∙ ap (λ w. told_after w r) same ∙ k
told-more t v u (x ∷ xs) r h k =
    let first = told-first t v x xs h in
    ap (λ o. and_then o (λ w. told_by w (xs ++ r ∷ []))) first.1 ∙ told-more first.0 v u xs r first.2 k

-- the last row, and those before it
pub told-last : (t z : Told) (xs : List Row) (r : Row) → told_by t (xs ++ r ∷ []) ≡ Some z → (v : Told) × (told_by t xs ≡ Some v) × (told_after v r ≡ Some z)
told-last t z [] r h =
    let first = told-first t z r [] h in
    let same : first.0 ≡ z = (let e : Some first.0 ≡ Some z = first.2 in cc) in
    (t, refl, first.1 ∙ ap (λ (w : Told). Some w) same)
told-last t z (x ∷ xs) r h =
    let first = told-first t z x (xs ++ r ∷ []) h in
    let rest = told-last first.0 z xs r first.2 in
    (rest.0, ap (λ o. and_then o (λ w. told_by w xs)) first.1 ∙ rest.1, rest.2)

begun : (b : Bool) (u : Told) → (if b then Some nothing_told else Nothing) ≡ Some u → u ≡ nothing_told
begun true u h = cc
begun false u h = absurd (cc)

-- after an `end` row everything begins anew
pub told-end : (v u : Told) (n k : ℕ) → told_after v (End n k) ≡ Some u → u ≡ nothing_told
told-end v u n k h = begun (is_told v) u h
