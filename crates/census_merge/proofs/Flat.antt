-- Rows under other numbers are on lines too.
use Rattle.std.proofs.Common.{◌≡◌, ℕ, zero, suc, ◌+◌, ◌%◌, ◌<◌, ◌≤◌, ◌^◌, true, false, List, [], ◌∷◌, ◌++◌, refl, arith, take, drop, codes, decimal}
use Rattle.std.specs.Prelude.{if◌then◌else◌}
use Rattle.std.proofs.lemmas.Fmt.{decimal_by_steps}
use Rattle.census_rows.specs.declared.row.Row.{Row}
use Rattle.census_rows.specs.declared.row.Row.TheVariants.{Open, Line, Part, Engine, Emits, Code, Close, End}
use Rattle.census_rows.specs.Lines.{IsRow, Spelling, fields_text, spelling, spelling_text}
use Rattle.census_readback.specs.Limits.{count_limit}
use Rattle.census_readback.specs.Shapes.{patterns_in}
use Rattle.census_readback.specs.Steps.{collection_of}
use Rattle.census_readback.specs.Texts.{AllLines, HasNoFeed, IsLine}
use Rattle.census_readback.proofs.Walks.{lines-append}
use Rattle.census_merge.specs.Kept.{closed_to, is_closed, is_end, kept_of, kept_rows, most, numbered, report_of, whole_count}
use Rattle.census_merge.proofs.Ranks.{most-is, number-most}

-- # Texts without LF

pub flat-append : (a b : List ℕ) → HasNoFeed a → HasNoFeed b → HasNoFeed (a ++ b)
flat-append [] b h k = k
flat-append (x ∷ a) b h k = (h.0, flat-append a b h.1 k)

flat-front : (a b : List ℕ) → HasNoFeed (a ++ b) → HasNoFeed a
flat-front [] b h = tt
flat-front (x ∷ a) b h = (h.0, flat-front a b h.1)

flat-back : (a b : List ℕ) → HasNoFeed (a ++ b) → HasNoFeed b
flat-back [] b h = h
flat-back (x ∷ a) b h = flat-back a b h.1

flat-decimal : (n : ℕ) → n < 2 ^ 64 → HasNoFeed (decimal n)
flat-decimal n small =
    decimal_by_steps (λ _ ds. HasNoFeed ds) (λ n less. (λ e. omega (arith, e), tt))
    (λ n ds least h. flat-append ds ((48 + n % 10) ∷ []) h (λ e. omega (arith, e), tt)) n small

-- # Another number

-- a line under this number
abbrev again : ℕ → Spelling → Spelling
again n s = record { word = s.word; number = n; fields = s.fields }

flat-again : (n : ℕ) (s : Spelling) → n < 2 ^ 64 → HasNoFeed (spelling_text s) → HasNoFeed (spelling_text (again n s))
flat-again n s small h =
    let word = flat-front s.word (fields_text (decimal s.number ∷ s.fields)) h in
    let behind = (flat-back s.word (fields_text (decimal s.number ∷ s.fields)) h).1 in
    let fields = flat-back (decimal s.number) (fields_text s.fields) behind in
    flat-append s.word (fields_text (decimal n ∷ s.fields)) word ((λ e. omega (arith, e)), flat-append (decimal n) (fields_text s.fields) (flat-decimal n small) fields)

spelled-again : (n : ℕ) (r : Row) → is_end r ≡ false → spelling (numbered n r) ≡ again n (spelling r)
spelled-again n (Open c k name) h = refl
spelled-again n (Line c i o name) h = refl
spelled-again n (Part c i code k) h = refl
spelled-again n (Engine c i e p x y k) h = refl
spelled-again n (Emits c i e code k) h = refl
spelled-again n (Code c rule code k) h = refl
spelled-again n (Close c k a b d) h = refl
spelled-again n (End k m) h = absurd (cc)

row-again : (n : ℕ) (r : Row) → n < 2 ^ 64 → IsRow r → IsRow (numbered n r)
row-again n (Open c k name) small h = (small, h.1)
row-again n (Line c i o name) small h = (small, h.1, h.2)
row-again n (Part c i code k) small h = (small, h.1, h.2, h.3)
row-again n (Engine c i e p x y k) small h = (small, h.1, h.2, h.3, h.4, h.5, h.6)
row-again n (Emits c i e code k) small h = (small, h.1, h.2, h.3, h.4)
row-again n (Code c rule code k) small h = (small, h.1, h.2, h.3)
row-again n (Close c k a b d) small h = (small, h.1, h.2, h.3, h.4)
row-again n (End k m) small h = h

line-again : (n : ℕ) (r : Row) → n < 2 ^ 64 → IsLine r → IsLine (numbered n r)
line-again n (End k m) small h = h
line-again n (Open c k name) small h = (row-again n (Open c k name) small h.0, flat-again n (spelling (Open c k name)) small h.1)
line-again n (Line c i o name) small h = (row-again n (Line c i o name) small h.0, flat-again n (spelling (Line c i o name)) small h.1)
line-again n (Part c i code k) small h = (row-again n (Part c i code k) small h.0, flat-again n (spelling (Part c i code k)) small h.1)
line-again n (Engine c i e p x y k) small h = (row-again n (Engine c i e p x y k) small h.0, flat-again n (spelling (Engine c i e p x y k)) small h.1)
line-again n (Emits c i e code k) small h = (row-again n (Emits c i e code k) small h.0, flat-again n (spelling (Emits c i e code k)) small h.1)
line-again n (Code c rule code k) small h = (row-again n (Code c rule code k) small h.0, flat-again n (spelling (Code c rule code k)) small h.1)
line-again n (Close c k a b d) small h = (row-again n (Close c k a b d) small h.0, flat-again n (spelling (Close c k a b d)) small h.1)

-- # Rows that are kept

lines-front : (n : ℕ) (xs : List Row) → AllLines xs → AllLines (take n xs)
lines-front zero xs h = tt
lines-front (suc n) [] h = tt
lines-front (suc n) (x ∷ xs) h = (h.0, lines-front n xs h.1)

-- no row has a collection number too large for a report
abbrev pub AreSmall : List Row → Type 0
AreSmall [] = Unit {0}
AreSmall (row ∷ rows) = (collection_of row ≤ count_limit) × AreSmall rows

kept-lines : (all rows : List Row) → AreSmall rows → AllLines rows → AllLines (kept_of all rows)
kept-lines all [] few h = tt
kept-lines all (r ∷ rows) few h =
    let n = closed_to all (collection_of r) in
    let top = number-most all (collection_of r) in
    let rest = kept-lines all rows few.1 h.1 in
    elim (is_closed all (collection_of r)) as (λ b. AllLines (if b then numbered n r ∷ kept_of all rows else kept_of all rows)) [
      | true ↦ (let high = few.0 in (line-again n r (omega (arith, top, high)) h.0, rest))
      | false ↦ rest
    ]

end-line : (n k : ℕ) → n < 2 ^ 64 → k < 2 ^ 64 → IsLine (End n k)
end-line n k small fits = (
  (small, fits),
  flat-append (codes "end") (fields_text (decimal n ∷ decimal k ∷ [])) ((λ e. omega (arith, e)), ((λ e. omega (arith, e)), ((λ e. omega (arith, e)), tt)))
      ((λ e. omega (arith, e)), flat-append (decimal n) (fields_text (decimal k ∷ [])) (flat-decimal n small) ((λ e. omega (arith, e)), flat-append (decimal k) [] (flat-decimal k fits) tt)),
)

pub report-lines : (rows : List Row) → AreSmall rows → patterns_in (kept_of rows rows) < 2 ^ 64 → AllLines rows → AllLines (report_of rows)
report-lines rows few fits h =
    let top = number-most rows most in
    let is = most-is in
    lines-append (kept_of rows rows) (End (closed_to rows most) (patterns_in (kept_of rows rows)) ∷ []) (kept-lines rows rows few h)
    (end-line (closed_to rows most) (patterns_in (kept_of rows rows)) (omega (arith, top, is)) fits, tt)

lines-back : (n : ℕ) (xs : List Row) → AllLines xs → AllLines (drop n xs)
lines-back zero xs h = h
lines-back (suc n) [] h = tt
lines-back (suc n) (x ∷ xs) h = lines-back n xs h.1

pub kept-all-lines : (rows : List Row) → AreSmall (drop (whole_count rows) rows) → patterns_in (kept_of (drop (whole_count rows) rows) (drop (whole_count rows) rows)) < 2 ^ 64 → AllLines rows
    → AllLines (kept_rows rows)
kept-all-lines rows few fits h =
    lines-append (take (whole_count rows) rows) (report_of (drop (whole_count rows) rows)) (lines-front (whole_count rows) rows h)
    (report-lines (drop (whole_count rows) rows) few fits (lines-back (whole_count rows) rows h))
