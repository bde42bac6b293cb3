-- What is counted of a report's rows is the sum of what is counted of each collection's rows.
use Rattle.std.proofs.Common.{◌≡◌, ℕ, zero, suc, ◌+◌, ◌<◌, ◌≤◌, true, false, eqb, List, [], ◌∷◌, ◌++◌, ap, ◌∙◌, refl, arith, inl, inr}
use Rattle.std.proofs.lemmas.Bool.{cases_Bool}
use Rattle.census_rows.specs.declared.row.Row.{Row}
use Rattle.census_readback.specs.Steps.{collection_of}
use Rattle.census_readback.specs.Shapes.{AreOfCollections, rows_of}
use Rattle.census_readback.proofs.Kept.{rows-one}

-- rows are counted one by one
pub record AddsUp (count : List Row → ℕ) : Type 0 where
  pub none : count [] ≡ 0
  pub more : (r : Row) (rows : List Row) → count (r ∷ rows) ≡ count (r ∷ []) + count rows

pub count-append : (count : List Row → ℕ) → AddsUp count → (xs ys : List Row) → count (xs ++ ys) ≡ count xs + count ys
count-append count adds [] ys =
    let none = adds.none in
    let e : count ys ≡ count [] + count ys = omega (arith, none) in e
count-append count adds (x ∷ xs) ys =
    let inner = count-append count adds xs ys in
    let both = adds.more x (xs ++ ys) in
    let left = adds.more x xs in
    let e : count (x ∷ (xs ++ ys)) ≡ count (x ∷ xs) + count ys = omega (arith, inner, both, left) in e

-- what is counted in this many collections, from `first` on
abbrev pub total : (List Row → ℕ) → ℕ → ℕ → List Row → ℕ
total count first zero rows = 0
total count first (suc collections) rows = count (rows_of first rows) + total count (suc first) collections rows

total-nil : (count : List Row → ℕ) → AddsUp count → (first n : ℕ) → total count first n [] ≡ 0
total-nil count adds first zero = refl
total-nil count adds first (suc n) =
    let none = adds.none in
    let others = total-nil count adds (suc first) n in
    let e : count [] + total count (suc first) n [] ≡ 0 = omega (arith, none, others) in e

total-passed : (count : List Row → ℕ) (first n : ℕ) (r : Row) (rows : List Row) → collection_of r < first → total count first n (r ∷ rows) ≡ total count first n rows
total-passed count first zero r rows less = refl
total-passed count first (suc n) r rows less =
    let other : eqb (collection_of r) first ≡ false = grind arith in
    ap (λ w. count w + total count (suc first) n (r ∷ rows)) (rows-one first r rows false other)
    ∙ ap (λ k. count (rows_of first rows) + k) (total-passed count (suc first) n r rows (omega arith))

total-here : (count : List Row → ℕ) → AddsUp count → (first n : ℕ) (r : Row) (rows : List Row) → first ≤ collection_of r → collection_of r < first + n
    → total count first n (r ∷ rows) ≡ count (r ∷ []) + total count first n rows
total-here count adds first zero r rows low high = absurd (omega arith)
total-here count adds first (suc n) r rows low high = elim (cases_Bool (eqb (collection_of r) first)) [
  | inl same ↦
      let equal : collection_of r ≡ first = grind arith in
      let here : count (rows_of first (r ∷ rows)) ≡ count (r ∷ rows_of first rows) = ap count (rows-one first r rows true same) in
      let more = adds.more r (rows_of first rows) in
      let others = total-passed count (suc first) n r rows (omega (arith, equal)) in
      omega (arith, here, more, others)
  | inr other ↦
      let further : first < collection_of r = grind arith in
      let here : count (rows_of first (r ∷ rows)) ≡ count (rows_of first rows) = ap count (rows-one first r rows false other) in
      let others = total-here count adds (suc first) n r rows further (omega arith) in
      omega (arith, here, others)
]

pub total-all : (count : List Row → ℕ) → AddsUp count → (n : ℕ) (rows : List Row) → AreOfCollections n rows → total count 1 n rows ≡ count rows
total-all count adds n [] h =
    let nothing = total-nil count adds 1 n in
    let none = adds.none in
    omega (arith, nothing, none)
total-all count adds n (r ∷ rows) h =
    let here = total-here count adds 1 n r rows (omega (arith, h.0)) (omega (arith, h.1)) in
    let others = total-all count adds n rows h.2 in
    let more = adds.more r rows in
    omega (arith, here, others, more)
