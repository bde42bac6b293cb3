-- How many patterns rows open, by their collections.
use Rattle.std.proofs.Common.{◌≡◌, ℕ, zero, suc, ◌+◌, ◌<◌, ◌≤◌, true, false, eqb, inl, inr, Option, Some, None, List, [], ◌∷◌, length, slice_get, ap, ◌∙◌, sym, refl, arith}
use Rattle.std.proofs.lemmas.Bool.{cases_Bool}
use Rattle.census_format.specs.Lines.{Collection, sayings_count}
use Rattle.census_readback.proofs.Kept.{rows-one}
use Rattle.census_readback.specs.Shapes.{AreCodes, AreLines, AreOfCollections, patterns_in, rows_of}
use Rattle.census_readback.specs.Steps.{collection_of, patterns_opened}
use Rattle.census_rows.specs.Kinds.{said}
use Rattle.census_rows.specs.declared.kinds.Behind.{Behind}
use Rattle.census_rows.specs.declared.row.Row.{Row}
use Rattle.census_rows.specs.declared.row.Row.TheVariants.{Open, Line, Part, Engine, Emits, Code, Close, End}

pub lines-open-none : (last : ℕ) (kind : Behind) (rows : List Row) → AreLines last kind rows → patterns_in rows ≡ 0
lines-open-none last kind [] h = refl
lines-open-none last kind (Open c n name ∷ rows) h = absurd h
lines-open-none last kind (Line c i o name ∷ rows) h = let e = lines-open-none (last + 1) (said o).behind rows h.1 in omega (arith, e)
lines-open-none last kind (Part c i code k ∷ rows) h = let e = lines-open-none last kind rows h.2 in omega (arith, e)
lines-open-none last kind (Engine c i n p x y k ∷ rows) h = let e = lines-open-none last kind rows h.2 in omega (arith, e)
lines-open-none last kind (Emits c i n code k ∷ rows) h = let e = lines-open-none last kind rows h.2 in omega (arith, e)
lines-open-none last kind (Code c rule code k ∷ rows) h = absurd h
lines-open-none last kind (Close c n a b d ∷ rows) h = absurd h
lines-open-none last kind (End n k ∷ rows) h = absurd h

pub codes-open-none : (rows : List Row) → AreCodes rows → patterns_in rows ≡ 0
codes-open-none [] h = refl
codes-open-none (Open c n name ∷ rows) h = absurd h
codes-open-none (Line c i o name ∷ rows) h = absurd h
codes-open-none (Part c i code k ∷ rows) h = absurd h
codes-open-none (Engine c i e p x y k ∷ rows) h = absurd h
codes-open-none (Emits c i e code k ∷ rows) h = absurd h
codes-open-none (Code c rule code k ∷ rows) h = let e = codes-open-none rows h in omega (arith, e)
codes-open-none (Close c n a b d ∷ rows) h = absurd h
codes-open-none (End n k ∷ rows) h = absurd h

-- how many patterns `count` collections open, from `first` on
abbrev total : ℕ → ℕ → List Row → ℕ
total first zero rows = 0
total first (suc count) rows = patterns_in (rows_of first rows) + total (suc first) count rows

total-nil : (first count : ℕ) → total first count [] ≡ 0
total-nil first zero = refl
total-nil first (suc count) = let e = total-nil (suc first) count in omega (arith, e)

total-passed : (first count : ℕ) (r : Row) (rows : List Row) → collection_of r < first → total first count (r ∷ rows) ≡ total first count rows
total-passed first zero r rows less = refl
total-passed first (suc count) r rows less =
    let other : eqb (collection_of r) first ≡ false = grind arith in
    let here = ap patterns_in (rows-one first r rows false other) in
    let others = total-passed (suc first) count r rows (omega arith) in
    omega (arith, here, others)

total-here : (first count : ℕ) (r : Row) (rows : List Row) → first ≤ collection_of r → collection_of r < first + count
    → total first count (r ∷ rows) ≡ patterns_opened r + total first count rows
total-here first zero r rows low high = absurd (omega arith)
total-here first (suc count) r rows low high = elim (cases_Bool (eqb (collection_of r) first)) [
  | inl same ↦
      let equal : collection_of r ≡ first = grind arith in
      let here = ap patterns_in (rows-one first r rows true same) in
      let others = total-passed (suc first) count r rows (omega (arith, equal)) in
      omega (arith, here, others)
  | inr other ↦
      let further : first < collection_of r = grind arith in
      let here = ap patterns_in (rows-one first r rows false other) in
      let others = total-here (suc first) count r rows further (omega arith) in
      omega (arith, here, others)
]

total-all : (n : ℕ) (rows : List Row) → AreOfCollections n rows → total 1 n rows ≡ patterns_in rows
total-all n [] h = total-nil 1 n
total-all n (r ∷ rows) h =
    let here = total-here 1 n r rows (omega (arith, h.0)) (omega (arith, h.1)) in
    let others = total-all n rows h.2 in
    omega (arith, here, others)

-- how many patterns a collection has
abbrev pub size_of : Option Collection → ℕ
size_of None = 0
size_of (Some f) = length f.sayings

total-count : (body : List Row) (first : ℕ) (fs : List Collection) → ((k : ℕ) → patterns_in (rows_of (first + k) body) ≡ size_of (slice_get fs k))
    → total first (length fs) body ≡ sayings_count fs
total-count body first [] h = refl
total-count body first (f ∷ fs) h =
    let at : first + 0 ≡ first = omega arith in
    let here : patterns_in (rows_of first body) ≡ length f.sayings = ap (λ c. patterns_in (rows_of c body)) (sym at) ∙ h 0 in
    let others = total-count body (suc first) fs (λ k.
    let next : suc first + k ≡ first + suc k = omega arith in
    ap (λ c. patterns_in (rows_of c body)) next ∙ h (suc k)) in
    omega (arith, here, others)

pub patterns-counted : (body : List Row) (b : List Collection) → AreOfCollections (length b) body → ((k : ℕ) → patterns_in (rows_of (suc k) body) ≡ size_of (slice_get b k))
    → patterns_in body ≡ sayings_count b
patterns-counted body b owned h =
    sym (total-all (length b) body owned)
    ∙ total-count body 1 b (λ k. let next : 1 + k ≡ suc k = omega arith in ap (λ c. patterns_in (rows_of c body)) next ∙ h k)
