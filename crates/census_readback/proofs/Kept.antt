-- What is known of the rows of a report that have been taken.
use Rattle.std.proofs.Common.{◌≡◌, ◌≢◌, ℕ, zero, suc, ◌+◌, ◌-◌, ◌<◌, ◌≤◌, ◌^◌, Bool, true, false, eqb, Option, Some, None, List, [], ◌∷◌, ◌++◌, ap, ◌∙◌, sym, refl, arith, length, get_or, replicate, get_or-set_other, get_or-set_same, length-append, length-set}
use Rattle.std.specs.Prelude.{if◌then◌else◌}
use Rattle.std.proofs.lemmas.Bool.{eqb-true, eqb-false}
use Rattle.std.proofs.lemmas.List.{length-replicate, append-nil as append-none}
use Rattle.census_rows.specs.declared.row.Row.{Row}
use Rattle.census_readback.specs.declared.place.Place.{Place}
use Rattle.census_readback.specs.declared.place.Place.TheVariants.{Before}
use Rattle.census_readback.specs.Sections.{place_after}
use Rattle.census_readback.specs.Runs.{run}
use Rattle.census_readback.specs.Steps.{Reading, collection_of, patterns_opened, place_at, padded_places, with_place}
use Rattle.census_readback.specs.Shapes.{rows_of, AreOfCollections, patterns_in}
use Rattle.census_readback.specs.Limits.{count_limit}

-- # Places

get-replicate : (m k : ℕ) → get_or (replicate m Before) k Before ≡ Before
get-replicate zero k = refl
get-replicate (suc m) zero = refl
get-replicate (suc m) (suc k) = get-replicate m k

pub get-padded : (xs : List Place) (m k : ℕ) → get_or (xs ++ replicate m Before) k Before ≡ get_or xs k Before
get-padded [] m k = get-replicate m k
get-padded (x ∷ xs) m zero = refl
get-padded (x ∷ xs) m (suc k) = get-padded xs m k

padded-size : (xs : List Place) (n : ℕ) → length (padded_places xs n) ≡ length xs + (n - length xs)
padded-size xs n = length-append xs (replicate (n - length xs) Before) ∙ ap (λ k. length xs + k) (length-replicate (n - length xs) Before)

pub put-size : (xs : List Place) (i : ℕ) (p : Place) → length (with_place xs i p) ≡ length xs + ((i + 1) - length xs)
put-size xs i p = length-set (padded_places xs (i + 1)) i p ∙ padded-size xs (i + 1)

pub put-same : (xs : List Place) (i : ℕ) (p : Place) → place_at (with_place xs i p) i ≡ p
put-same xs i p = get_or-set_same (padded_places xs (i + 1)) i p Before (omega (arith, padded-size xs (i + 1)))

pub put-other : (xs : List Place) (i k : ℕ) (p : Place) → k ≢ i → place_at (with_place xs i p) k ≡ place_at xs k
put-other xs i k p other = get_or-set_other (padded_places xs (i + 1)) i k p Before other ∙ get-padded xs ((i + 1) - length xs) k

-- # Rows

pub rows-append : (c : ℕ) (xs ys : List Row) → rows_of c (xs ++ ys) ≡ rows_of c xs ++ rows_of c ys
rows-append c [] ys = refl
rows-append c (x ∷ xs) ys =
    elim (eqb (collection_of x) c) as (λ v. (if v then x ∷ rows_of c (xs ++ ys) else rows_of c (xs ++ ys)) ≡ (if v then x ∷ rows_of c xs else rows_of c xs) ++ rows_of c ys) [
      | true ↦ ap (λ w. x ∷ w) (rows-append c xs ys)
      | false ↦ rows-append c xs ys
    ]

pub rows-one : (c : ℕ) (x : Row) (rows : List Row) (b : Bool) → eqb (collection_of x) c ≡ b → rows_of c (x ∷ rows) ≡ if b then x ∷ rows_of c rows else rows_of c rows
rows-one c x rows b e = ap (λ (v : Bool). if v then x ∷ rows_of c rows else rows_of c rows) e

pub rows-here : (c : ℕ) (xs : List Row) (x : Row) (ys : List Row) → eqb (collection_of x) c ≡ true → rows_of c (xs ++ x ∷ ys) ≡ rows_of c xs ++ x ∷ rows_of c ys
rows-here c xs x ys e = rows-append c xs (x ∷ ys) ∙ ap (λ w. rows_of c xs ++ w) (rows-one c x ys true e)

pub rows-elsewhere : (c : ℕ) (xs : List Row) (x : Row) (ys : List Row) → eqb (collection_of x) c ≡ false → rows_of c (xs ++ x ∷ ys) ≡ rows_of c xs ++ rows_of c ys
rows-elsewhere c xs x ys e = rows-append c xs (x ∷ ys) ∙ ap (λ w. rows_of c xs ++ w) (rows-one c x ys false e)

pub patterns-append : (xs ys : List Row) → patterns_in (xs ++ ys) ≡ patterns_in xs + patterns_in ys
patterns-append [] ys = omega arith
patterns-append (x ∷ xs) ys = omega (arith, patterns-append xs ys)

pub of-append : (n : ℕ) (xs ys : List Row) → AreOfCollections n xs → AreOfCollections n ys → AreOfCollections n (xs ++ ys)
of-append n [] ys h k = k
of-append n (x ∷ xs) ys h k = (h.0, h.1, of-append n xs ys h.2 k)

pub of-front : (n : ℕ) (xs ys : List Row) → AreOfCollections n (xs ++ ys) → AreOfCollections n xs
of-front n [] ys h = tt
of-front n (x ∷ xs) ys h = (h.0, h.1, of-front n xs ys h.2)

pub of-back : (n : ℕ) (xs ys : List Row) → AreOfCollections n (xs ++ ys) → AreOfCollections n ys
of-back n [] ys h = h
of-back n (x ∷ xs) ys h = of-back n xs ys h.2

of-more : (n m : ℕ) (xs : List Row) → n ≤ m → AreOfCollections n xs → AreOfCollections m xs
of-more n m [] less h = tt
of-more n m (x ∷ xs) less h = (h.0, (omega (arith, h.1)), of-more n m xs less h.2)

-- # Runs

run-next : (o : Option Place) → (elim o as (λ _. Option Place) [ None ↦ None | Some after ↦ Some after ]) ≡ o
run-next None = refl
run-next (Some p) = refl

pub run-more : (p q : Place) (xs : List Row) (x : Row) → run p xs ≡ Some q → run p (xs ++ x ∷ []) ≡ place_after q x
run-more p q [] x h = (let same : p ≡ q = cc in ap (λ w. run w (x ∷ [])) same ∙ run-next (place_after q x))
run-more p q (y ∷ xs) x h =
    let on : (o : Option Place) → (elim o as (λ _. Option Place) [ None ↦ None | Some after ↦ run after xs ]) ≡ Some q
    → (elim o as (λ _. Option Place) [ None ↦ None | Some after ↦ run after (xs ++ x ∷ []) ]) ≡ place_after q x =
    λ o. elim o as (λ o. (elim o as (λ _. Option Place) [ None ↦ None | Some after ↦ run after xs ]) ≡ Some q
    → (elim o as (λ _. Option Place) [ None ↦ None | Some after ↦ run after (xs ++ x ∷ []) ]) ≡ place_after q x) [
      | None ↦ λ k. absurd (cc)
      | Some after ↦ λ k. run-more after q xs x k
    ] in
    on (place_after p y) h

-- what follows is taken too
pub run-split : (p q z : Place) (xs : List Row) (x : Row) (ys : List Row) → run p xs ≡ Some q → run p (xs ++ x ∷ ys) ≡ Some z → (a : Place) × (place_after q x ≡ Some a)
run-split p q z [] x ys h k =
    let same : p ≡ q = cc in
    let on : (o : Option Place) → (elim o as (λ _. Option Place) [ None ↦ None | Some after ↦ run after ys ]) ≡ Some z → (a : Place) × (o ≡ Some a) =
    λ o. elim o as (λ o. (elim o as (λ _. Option Place) [ None ↦ None | Some after ↦ run after ys ]) ≡ Some z → (a : Place) × (o ≡ Some a)) [
      | None ↦ λ e. absurd (cc)
      | Some after ↦ λ e. (after, refl)
    ] in
    on (place_after q x) (ap (λ w. run w (x ∷ ys)) (sym same) ∙ k)
run-split p q z (y ∷ xs) x ys h k =
    let on : (o : Option Place) → (elim o as (λ _. Option Place) [ None ↦ None | Some after ↦ run after xs ]) ≡ Some q
    → (elim o as (λ _. Option Place) [ None ↦ None | Some after ↦ run after (xs ++ x ∷ ys) ]) ≡ Some z → (a : Place) × (place_after q x ≡ Some a) =
    λ o. elim o as (λ o. (elim o as (λ _. Option Place) [ None ↦ None | Some after ↦ run after xs ]) ≡ Some q
    → (elim o as (λ _. Option Place) [ None ↦ None | Some after ↦ run after (xs ++ x ∷ ys) ]) ≡ Some z → (a : Place) × (place_after q x ≡ Some a)) [
      | None ↦ λ e f. absurd (cc)
      | Some after ↦ λ e f. run-split after q z xs x ys e f
    ] in
    on (place_after p y) h k

-- # What is kept

pub record Kept (s : Reading) (seen : List Row) : Type 0 where
  pub places : (k : ℕ) → run Before (rows_of (k + 1) seen) ≡ Some (place_at s.places k)
  pub owned : AreOfCollections (length s.places) seen
  pub under : (n : ℕ) → AreOfCollections n seen → length s.places ≤ n
  pub few : length s.places ≤ count_limit
  pub sum : s.patterns ≡ patterns_in seen
  pub fits : s.patterns < 2 ^ 64

pub kept-none : (s : Reading) → s.places ≡ [] → s.patterns ≡ 0 → Kept s []
kept-none s none zero_patterns = record {
  places = λ k. rw none refl;
  owned = tt;
  under = λ n h. (let e : length s.places ≡ 0 = ap length none in omega arith);
  few = (let e : length s.places ≡ 0 = ap length none in omega arith);
  sum = zero_patterns;
  fits = omega arith;
}

pub kept-step : (s : Reading) (seen : List Row) (r : Row) (p : Place) → Kept s seen → 0 < collection_of r → collection_of r ≤ count_limit
    → place_after (place_at s.places (collection_of r - 1)) r ≡ Some p → s.patterns + patterns_opened r < 2 ^ 64
    → Kept (record { places = with_place s.places (collection_of r - 1) p; patterns = s.patterns + patterns_opened r; ended = false }) (seen ++ r ∷ [])
kept-step s seen r p kept low high goes fits =
    let i = collection_of r - 1 in
    let size = put-size s.places i p in
    record {
      places = λ k.
          (let here : eqb (collection_of r) (k + 1) ≡ true → run Before (rows_of (k + 1) (seen ++ r ∷ [])) ≡ Some (place_at (with_place s.places i p) k) = λ e.
          (let number : collection_of r ≡ k + 1 = eqb-true _ _ e in
          let same : k ≡ i = omega arith in
          ap (run Before) (rows-here (k + 1) seen r [] e) ∙ run-more Before (place_at s.places k) (rows_of (k + 1) seen) r (kept.places k)
          ∙ ap (λ m. place_after (place_at s.places m) r) same ∙ goes ∙ ap (λ (w : Place). Some w) (sym (put-same s.places i p))
          ∙ ap (λ m. Some (place_at (with_place s.places i p) m)) (sym same)) in
          let elsewhere : eqb (collection_of r) (k + 1) ≡ false → run Before (rows_of (k + 1) (seen ++ r ∷ [])) ≡ Some (place_at (with_place s.places i p) k) = λ e.
          (let number : collection_of r ≢ k + 1 = eqb-false _ _ e in
          let other : k ≢ i = omega arith in
          ap (run Before) (rows-elsewhere (k + 1) seen r [] e ∙ append-none (rows_of (k + 1) seen)) ∙ kept.places k
          ∙ ap (λ (w : Place). Some w) (sym (put-other s.places i k p other))) in
          let on : (v : Bool) → eqb (collection_of r) (k + 1) ≡ v → run Before (rows_of (k + 1) (seen ++ r ∷ [])) ≡ Some (place_at (with_place s.places i p) k) =
          λ v. elim v as (λ v. eqb (collection_of r) (k + 1) ≡ v → run Before (rows_of (k + 1) (seen ++ r ∷ [])) ≡ Some (place_at (with_place s.places i p) k)) [
            | true ↦ here
            | false ↦ elsewhere
          ] in
          on (eqb (collection_of r) (k + 1)) refl);
      owned =
          (let more : length s.places ≤ length (with_place s.places i p) = omega (arith, size) in
          let most : collection_of r ≤ length (with_place s.places i p) = omega (arith, size) in
          of-append (length (with_place s.places i p)) seen (r ∷ []) (of-more (length s.places) (length (with_place s.places i p)) seen more kept.owned) (low, most, tt));
      under = λ n h.
          (let before = kept.under n (of-front n seen (r ∷ []) h) in
          let last = (of-back n seen (r ∷ []) h).1 in
          omega (arith, size, before, last));
      few = omega (arith, size, kept.few);
      sum = omega (arith, kept.sum, patterns-append seen (r ∷ []));
      fits = fits;
    }
