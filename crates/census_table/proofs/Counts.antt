-- A table has as many rows as a report has `line` rows.
use Rattle.std.proofs.Common.{◌≡◌, ℕ, zero, suc, ◌+◌, ◌<◌, ◌≤◌, List, [], ◌∷◌, ◌++◌, ap, ◌∙◌, sym, refl, arith, subst, length, append_assoc}
use Rattle.std.specs.Borrow.{Bor}
use Rattle.std.proofs.Math.Numerals.{one-add}
use Rattle.std.proofs.lemmas.List.{length-append}
use Rattle.census_rows.specs.declared.row.Row.{Row}
use Rattle.census_rows.specs.declared.row.Row.TheVariants.{Open, Line, Part, Engine, Emits, Code, Close, End}
use Rattle.census_readback.specs.Shapes.{AreReports, AreWhole, IsOpenRow, IsSection, any_outcome, all_rows, lines_that, patterns_in, rows_of}
use Rattle.census_readback.specs.Grouped.{collections_of, sections_of}
use Rattle.census_readback.proofs.Cutting.{collections-body}
use Rattle.census_readback.proofs.Totals.{AddsUp, count-append, total, total-all}
use Rattle.census_table.specs.Entries.{all_entries, entries_of, entries_under, section_entries}

zero-plus : (n : ℕ) → n ≡ 0 + n
zero-plus n = omega arith

lines-add : AddsUp (lines_that any_outcome)
lines-add = record { none = refl; more = λ r rows. omega arith }

under-size : (m n k : ℕ) (title : Bor (List ℕ)) (rows : List Row) → length (entries_under m (Open n k title) rows) ≡ lines_that any_outcome rows
under-size m n k title [] = refl
under-size m n k title (Open c p name ∷ rows) = under-size m n k title rows ∙ zero-plus (lines_that any_outcome rows)
under-size m n k title (Line c i o name ∷ rows) = ap (λ x. suc x) (under-size m n k title rows) ∙ sym (one-add (lines_that any_outcome rows))
under-size m n k title (Part c i code p ∷ rows) = under-size m n k title rows ∙ zero-plus (lines_that any_outcome rows)
under-size m n k title (Engine c i e q x y p ∷ rows) = under-size m n k title rows ∙ zero-plus (lines_that any_outcome rows)
under-size m n k title (Emits c i e code p ∷ rows) = under-size m n k title rows ∙ zero-plus (lines_that any_outcome rows)
under-size m n k title (Code c rule code p ∷ rows) = under-size m n k title rows ∙ zero-plus (lines_that any_outcome rows)
under-size m n k title (Close c p a b d ∷ rows) = under-size m n k title rows ∙ zero-plus (lines_that any_outcome rows)
under-size m n k title (End c p ∷ rows) = under-size m n k title rows ∙ zero-plus (lines_that any_outcome rows)

opened-size : (m : ℕ) (first : Row) (rows : List Row) → IsOpenRow first → length (section_entries m (first ∷ rows)) ≡ lines_that any_outcome (first ∷ rows)
opened-size m (Open c n name) rows h = under-size m c n name rows ∙ zero-plus (lines_that any_outcome rows)
opened-size m (Line c i o name) rows h = absurd h
opened-size m (Part c i code k) rows h = absurd h
opened-size m (Engine c i e p x y k) rows h = absurd h
opened-size m (Emits c i e code k) rows h = absurd h
opened-size m (Code c rule code k) rows h = absurd h
opened-size m (Close c n a b d) rows h = absurd h
opened-size m (End n k) rows h = absurd h

section-size : (m : ℕ) (rows : List Row) → IsSection rows → length (section_entries m rows) ≡ lines_that any_outcome rows
section-size m rows is = subst (λ w. length (section_entries m w) ≡ lines_that any_outcome w) (sym is.whole) (opened-size m is.first _ is.opens)

pub all-append : (m : ℕ) (xs ys : List (List Row)) → all_entries m (xs ++ ys) ≡ all_entries m xs ++ all_entries (m + length xs) ys
all-append m [] ys = ap (λ k. all_entries k ys) (let e : m ≡ m + 0 = omega arith in e)
all-append m (x ∷ xs) ys =
    ap (λ t. section_entries m x ++ t) (all-append (m + 1) xs ys)
    ∙ sym (append_assoc (section_entries m x) (all_entries (m + 1) xs) (all_entries (m + 1 + length xs) ys))
    ∙ ap (λ k. (section_entries m x ++ all_entries (m + 1) xs) ++ all_entries k ys) (let e : m + 1 + length xs ≡ m + suc (length xs) = omega arith in e)

sections-total : (m first count : ℕ) (rows : List Row) → ((c : ℕ) → first ≤ c → c < first + count → IsSection (rows_of c rows))
    → length (all_entries m (sections_of first count rows)) ≡ total (lines_that any_outcome) first count rows
sections-total m first zero rows each = refl
sections-total m first (suc count) rows each =
    let here = section-size m (rows_of first rows) (each first (omega arith) (omega arith)) in
    let others = sections-total (m + 1) (suc first) count rows (λ c low high. each c (omega arith) (omega arith)) in
    let whole = length-append (section_entries m (rows_of first rows)) (all_entries (m + 1) (sections_of (suc first) count rows)) in
    omega (arith, here, others, whole)

reports-size : (m : ℕ) (reports : List (List Row)) → AreWhole reports → length (all_entries m (collections_of [] (all_rows reports))) ≡ lines_that any_outcome (all_rows reports)
reports-size m [] h = refl
reports-size m (rows ∷ reports) h =
    let is = h.0 in
    let n = is.collections in
    let last = End n (patterns_in is.body) in
    let e : rows ++ all_rows reports ≡ is.body ++ last ∷ all_rows reports =
    ap (λ w. w ++ all_rows reports) is.whole ∙ append_assoc is.body (last ∷ []) (all_rows reports) in
    let here = sections_of 1 n is.body in
    let behind = collections_of [] (all_rows reports) in
    let cut = ap (λ w. length (all_entries m w)) (collections-body [] is.body n (patterns_in is.body) n (all_rows reports) is.owned) in
    let apart = ap length (all-append m here behind) in
    let sum = length-append (all_entries m here) (all_entries (m + length here) behind) in
    let first = sections-total m 1 n is.body (λ c low high. is.sections c (omega arith) (omega arith)) in
    let each = total-all (lines_that any_outcome) lines-add n is.body is.owned in
    let others = reports-size (m + length here) reports h.1 in
    let lines = count-append (lines_that any_outcome) lines-add is.body (last ∷ all_rows reports) in
    let whole : length (all_entries m (collections_of [] (is.body ++ last ∷ all_rows reports))) ≡ lines_that any_outcome (is.body ++ last ∷ all_rows reports) =
    omega (arith, cut, apart, sum, first, each, others, lines) in
    subst (λ w. length (all_entries m (collections_of [] w)) ≡ lines_that any_outcome w) (sym e) whole

pub entries-size : (rows : List Row) → AreReports rows → length (entries_of rows) ≡ lines_that any_outcome rows
entries-size rows is = subst (λ w. length (entries_of w) ≡ lines_that any_outcome w) (sym is.whole) (reports-size 1 is.reports is.each)
