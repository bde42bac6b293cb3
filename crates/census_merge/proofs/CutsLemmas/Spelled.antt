-- What is kept of rows depends only on how they are spelled.
use Rattle.std.proofs.Common.{◌≡◌, ℕ, ◌+◌, ◌<◌, ◌^◌, Bool, true, false, ◌||◌, cond, eqb, List, [], ◌∷◌, map, codes, decimal, bytes_eq, ap, ◌∙◌, sym, refl, arith}
use Rattle.std.proofs.lemmas.Fmt.{decimal_injective}
use Rattle.census_merge.specs.Kept.{closed_to, closes, is_closed, is_end, kept_of, numbered}
use Rattle.census_merge.proofs.Placed.{opened-numbered}
use Rattle.census_readback.specs.Shapes.{patterns_in}
use Rattle.census_readback.specs.Steps.{collection_of, patterns_opened}
use Rattle.census_rows.specs.declared.row.Row.{Row}
use Rattle.census_rows.specs.declared.row.Row.TheVariants.{Open, Line, Part, Engine, Emits, Code, Close, End}
use Rattle.census_rows.specs.Lines.{IsRow, Spelling, spelled, spelling}

-- ---- one row

abbrev ends : Spelling → Bool
ends s = bytes_eq s.word (codes "end")

abbrev owner_of : Spelling → ℕ
owner_of s = cond (ends s) 0 s.number

abbrev under : ℕ → Spelling → Spelling
under n s = cond (ends s) s (spelled s.word n s.fields)

abbrev closing_of : ℕ → Spelling → Bool
closing_of c s = cond (bytes_eq s.word (codes "close")) (eqb s.number c) false

ends-spelled : (row : Row) → is_end row ≡ ends (spelling row)
ends-spelled (Open collection patterns name) = refl
ends-spelled (Line collection pattern outcome name) = refl
ends-spelled (Part collection pattern code count) = refl
ends-spelled (Engine collection pattern number period dx dy count) = refl
ends-spelled (Emits collection pattern engine code count) = refl
ends-spelled (Code collection rule code count) = refl
ends-spelled (Close collection patterns resolved unresolved refused) = refl
ends-spelled (End collections patterns) = refl

-- rows that are spelled alike end a report alike
pub same-end : (row other : Row) → spelling row ≡ spelling other → is_end row ≡ is_end other
same-end row other e = ends-spelled row ∙ ap ends e ∙ sym (ends-spelled other)

owner-spelled : (row : Row) → collection_of row ≡ owner_of (spelling row)
owner-spelled (Open collection patterns name) = refl
owner-spelled (Line collection pattern outcome name) = refl
owner-spelled (Part collection pattern code count) = refl
owner-spelled (Engine collection pattern number period dx dy count) = refl
owner-spelled (Emits collection pattern engine code count) = refl
owner-spelled (Code collection rule code count) = refl
owner-spelled (Close collection patterns resolved unresolved refused) = refl
owner-spelled (End collections patterns) = refl

numbered-spelled : (n : ℕ) (row : Row) → spelling (numbered n row) ≡ under n (spelling row)
numbered-spelled n (Open collection patterns name) = refl
numbered-spelled n (Line collection pattern outcome name) = refl
numbered-spelled n (Part collection pattern code count) = refl
numbered-spelled n (Engine collection pattern number period dx dy count) = refl
numbered-spelled n (Emits collection pattern engine code count) = refl
numbered-spelled n (Code collection rule code count) = refl
numbered-spelled n (Close collection patterns resolved unresolved refused) = refl
numbered-spelled n (End collections patterns) = refl

closes-spelled : (c : ℕ) (row : Row) → closes c row ≡ closing_of c (spelling row)
closes-spelled c (Open collection patterns name) = refl
closes-spelled c (Line collection pattern outcome name) = refl
closes-spelled c (Part collection pattern code count) = refl
closes-spelled c (Engine collection pattern number period dx dy count) = refl
closes-spelled c (Emits collection pattern engine code count) = refl
closes-spelled c (Code collection rule code count) = refl
closes-spelled c (Close collection patterns resolved unresolved refused) = refl
closes-spelled c (End collections patterns) = refl

-- ---- how many patterns a row opens

abbrev first_of : List (List ℕ) → List ℕ
first_of [] = []
first_of (field ∷ fields) = field

abbrev opened_in : Spelling → List ℕ
opened_in s = cond (bytes_eq s.word (codes "open")) (first_of s.fields) (decimal 0)

opened-spelled : (row : Row) → decimal (patterns_opened row) ≡ opened_in (spelling row)
opened-spelled (Open collection patterns name) = refl
opened-spelled (Line collection pattern outcome name) = refl
opened-spelled (Part collection pattern code count) = refl
opened-spelled (Engine collection pattern number period dx dy count) = refl
opened-spelled (Emits collection pattern engine code count) = refl
opened-spelled (Code collection rule code count) = refl
opened-spelled (Close collection patterns resolved unresolved refused) = refl
opened-spelled (End collections patterns) = refl

small-opened : (row : Row) → IsRow row → patterns_opened row < 2 ^ 64
small-opened (Open collection patterns name) h = h.1
small-opened (Line collection pattern outcome name) h = omega arith
small-opened (Part collection pattern code count) h = omega arith
small-opened (Engine collection pattern number period dx dy count) h = omega arith
small-opened (Emits collection pattern engine code count) h = omega arith
small-opened (Code collection rule code count) h = omega arith
small-opened (Close collection patterns resolved unresolved refused) h = omega arith
small-opened (End collections patterns) h = omega arith

-- a row that is spelled as one that opens fewer than 2^64 patterns opens the same number of patterns
pub same-opened : (row other : Row) → IsRow row → patterns_opened other < 2 ^ 64 → spelling row ≡ spelling other → patterns_opened row ≡ patterns_opened other
same-opened row other h few e =
    decimal_injective (patterns_opened row) (patterns_opened other) (small-opened row h) few
    (opened-spelled row ∙ ap opened_in e ∙ sym (opened-spelled other))

-- ---- rows

abbrev closed_by : ℕ → List Spelling → Bool
closed_by c [] = false
closed_by c (s ∷ ss) = closing_of c s || closed_by c ss

closed-spelled : (c : ℕ) (rows : List Row) → is_closed rows c ≡ closed_by c (map spelling rows)
closed-spelled c [] = refl
closed-spelled c (row ∷ rows) = (λ i. closes-spelled c row i || closed-spelled c rows i)

-- rows that are spelled alike close the same collections
pub same-closed : (c : ℕ) (rows others : List Row) → map spelling rows ≡ map spelling others → is_closed rows c ≡ is_closed others c
same-closed c rows others e = closed-spelled c rows ∙ ap (closed_by c) e ∙ sym (closed-spelled c others)

module _ (all : List Row) where
  abbrev kept_spelled : List Spelling → List Spelling
  kept_spelled [] = []
  kept_spelled (s ∷ ss) = cond (is_closed all (owner_of s)) (under (closed_to all (owner_of s)) s ∷ kept_spelled ss) (kept_spelled ss)

  one-kept : (v : Bool) (row : Row) (rows : List Row) → map spelling (cond v (row ∷ rows) rows) ≡ cond v (spelling row ∷ map spelling rows) (map spelling rows)
  one-kept true row rows = refl
  one-kept false row rows = refl

  kept-spelled : (rows : List Row) → map spelling (kept_of all rows) ≡ kept_spelled (map spelling rows)
  kept-spelled [] = refl
  kept-spelled (row ∷ rows) =
      let n = closed_to all (collection_of row) in
      one-kept (is_closed all (collection_of row)) (numbered n row) (kept_of all rows)
      ∙ ap (λ ss. cond (is_closed all (collection_of row)) (spelling (numbered n row) ∷ ss) ss) (kept-spelled rows)
      ∙ ap (λ s. cond (is_closed all (collection_of row)) (s ∷ kept_spelled (map spelling rows)) (kept_spelled (map spelling rows))) (numbered-spelled n row)
      ∙ ap (λ c. cond (is_closed all c) (under (closed_to all c) (spelling row) ∷ kept_spelled (map spelling rows)) (kept_spelled (map spelling rows))) (owner-spelled row)

  -- the rows kept of rows that are spelled alike are spelled alike
  pub same-kept : (rows others : List Row) → map spelling rows ≡ map spelling others → map spelling (kept_of all rows) ≡ map spelling (kept_of all others)
  same-kept rows others e = kept-spelled rows ∙ ap kept_spelled e ∙ sym (kept-spelled others)

  abbrev kept_opened : List Spelling → List ℕ → ℕ
  kept_opened [] ns = 0
  kept_opened (s ∷ ss) [] = 0
  kept_opened (s ∷ ss) (n ∷ ns) = cond (is_closed all (owner_of s)) (n + kept_opened ss ns) (kept_opened ss ns)

  one-opened : (v : Bool) (row : Row) (rows : List Row) → patterns_in (cond v (row ∷ rows) rows) ≡ cond v (patterns_opened row + patterns_in rows) (patterns_in rows)
  one-opened true row rows = refl
  one-opened false row rows = refl

  kept-opened : (rows : List Row) → patterns_in (kept_of all rows) ≡ kept_opened (map spelling rows) (map patterns_opened rows)
  kept-opened [] = refl
  kept-opened (row ∷ rows) =
      let n = closed_to all (collection_of row) in
      let rest = kept_opened (map spelling rows) (map patterns_opened rows) in
      one-opened (is_closed all (collection_of row)) (numbered n row) (kept_of all rows)
      ∙ ap (λ m. cond (is_closed all (collection_of row)) (patterns_opened (numbered n row) + m) m) (kept-opened rows)
      ∙ ap (λ m. cond (is_closed all (collection_of row)) (m + rest) rest) (opened-numbered n row)
      ∙ ap (λ c. cond (is_closed all c) (patterns_opened row + rest) rest) (owner-spelled row)

  -- and they open the same number of patterns, if each row does
  pub same-patterns : (rows others : List Row) → map spelling rows ≡ map spelling others → map patterns_opened rows ≡ map patterns_opened others
      → patterns_in (kept_of all rows) ≡ patterns_in (kept_of all others)
  same-patterns rows others e d = kept-opened rows ∙ (λ i. kept_opened (e i) (d i)) ∙ sym (kept-opened others)
