-- What is kept of a text that was cut is a report, or several.
use Rattle.std.proofs.Common.{◌≡◌, ◌≢◌, ℕ, ◌+◌, ◌<◌, ◌-◌, Bool, true, false, ◌||◌, eqb, Option, Some, None as Nothing, List, [], ◌∷◌, ◌++◌, ap, ◌∙◌, sym, refl, arith, subst, length, take, drop, inl, inr}
use Rattle.std.proofs.lemmas.Bool.{eqb-true, eq-eqb}
use Rattle.std.specs.Prelude.{MatchOption, count_by, if◌then◌else◌}
use Rattle.std.proofs.lemmas.List.Sums.{sum_by-append, sum_by-cons}
use Rattle.census_rows.specs.declared.row.Row.{Row}
use Rattle.census_rows.specs.declared.row.Row.TheVariants.{End}
use Rattle.census_rows.specs.Lines.{line_of, row_text, text_of}
use Rattle.census_readback.specs.Limits.{count_limit}
use Rattle.census_readback.specs.Reports.{IsFault}
use Rattle.census_readback.specs.Shapes.{AreOfCollections, AreReports, patterns_in}
use Rattle.census_readback.specs.Steps.{Reading, first_stray, initial_reading, is_behind, place_at, step}
use Rattle.census_readback.specs.Texts.{AllLines, HasNoFeed, IsStuck, SameRows}
use Rattle.census_readback.specs.Told.{Told, nothing_told}
use Rattle.census_readback.proofs.Alike.{stray-same}
use Rattle.census_readback.proofs.Interleaved.{reports-sound}
use Rattle.census_merge.specs.Feeds.{feeds}
use Rattle.census_merge.specs.Kept.{closed_to, is_close, is_closed, is_open, kept_of, kept_rows, most, whole_count}
use Rattle.census_merge.specs.Mended.{IsCutTo}
use Rattle.census_merge.specs.declared.mending.Cut.{Cut}
use Rattle.census_merge.specs.Numbers.{CanBeKept}
use Rattle.census_merge.proofs.Flat.{AreSmall, kept-all-lines}
use Rattle.census_merge.proofs.Mirrored.{Mirrors, closed-then, none-zero, owned, run-ends, run-on}
use Rattle.census_merge.proofs.Standing.{Halves, NoneWrong, Stand, halves, passed, standing, stray-most}
use Rattle.census_merge.proofs.Tellings.{MirrorsTold}

-- # The rows

no-place : (s : Reading) (c : ℕ) → s.places ≡ [] → is_behind (place_at s.places c) ≡ false
no-place s c e = ap (λ xs. is_behind (place_at xs c)) e

mirrors-start : (all : List Row) (s : Reading) → s.places ≡ [] → s.patterns ≡ 0 → Mirrors all s s
mirrors-start all s none nothing = record {
  places = λ c low held. ap (λ xs. place_at xs (closed_to all c - 1)) none ∙ sym (ap (λ xs. place_at xs (c - 1)) none);
  size = (let e = ap length none in omega (arith, e));
  patterns = omega arith;
  fits = omega (arith, nothing);
}

told-start : (all : List Row) → MirrorsTold all nothing_told nothing_told
told-start all = inr (refl, inr (refl, refl))

small-rows : (rows : List Row) → AreOfCollections count_limit rows → AreSmall rows
small-rows [] h = tt
small-rows (r ∷ rows) h = (h.1, small-rows rows h.2)

-- what is known of rows if none of them is wrong
pub record Keeps (rows : List Row) : Type 0 where
  pub can : CanBeKept rows
  pub reports : AreReports (kept_rows rows)

keeps-by : (rows : List Row) (u : Told) (v : Reading) → Halves nothing_told initial_reading rows u v (whole_count rows) → Keeps rows
keeps-by rows u v h =
    let front = take (whole_count rows) rows in
    let all = drop (whole_count rows) rows in
    let anew : (h.told ≡ nothing_told) × (h.reading.places ≡ []) × (h.reading.patterns ≡ 0) =
    elim h.anew as (λ _. (h.told ≡ nothing_told) × (h.reading.places ≡ []) × (h.reading.patterns ≡ 0)) [
      | inl same ↦ (same.1, ap (λ (x : Reading). x.places) same.2, ap (λ (x : Reading). x.patterns) same.2)
      | inr both ↦ (both.0, ap (λ (x : Reading). x.places) both.1, ap (λ (x : Reading). x.patterns) both.1)
    ] in
    let s = h.reading in
    let before : Stand nothing_told initial_reading front nothing_told s = subst (λ t. Stand nothing_told initial_reading front t s) anew.0 h.front in
    let back : Stand nothing_told s all u v = subst (λ t. Stand t s all u v) anew.0 h.back in
    let own = owned nothing_told u s v all h.none back in
    let run = run-on all nothing_told u s v nothing_told s all h.none back (told-start all) (mirrors-start all s anew.1 anew.2) (inl refl) in
    let closed : (c : ℕ) → 0 < c → is_behind (place_at v.places (c - 1)) ≡ is_closed all c = λ c low.
    closed-then nothing_told u s v all c h.none back low ∙ ap (λ b. b || is_closed all c) (no-place s (c - 1) anew.1) in
    let ends = run-ends all u run.told v run.reading (none-zero count_limit all own) closed run.mirrors-told run.mirrors run.ready-too in
    let sum : run.reading.patterns ≡ patterns_in (kept_of all all) = (let e = run.sum in let z = anew.2 in omega (arith, e, z)) in
    let kept = kept_of all all in
    let count = closed_to all most in
    let last : List Row = End count run.reading.patterns ∷ [] in
    let one = passed nothing_told nothing_told initial_reading s 1 front (kept ++ last) before in
    let two = passed nothing_told run.told s run.reading one.0 kept last run.stand in
    let end : first_stray run.told run.reading two.0 last ≡ Nothing =
    ap (λ (o : Option Told). elim o as (λ _. Option ℕ) [ Nothing ↦ Some two.0 | Some m ↦ elim (step run.reading (End count run.reading.patterns)) as (λ _. Option ℕ) [ Nothing ↦ Some two.0 | Some t ↦ first_stray m t (two.0 + 1) [] ] ]) ends.tells
    ∙ ap (λ (o : Option Reading). elim o as (λ _. Option ℕ) [ Nothing ↦ Some two.0 | Some t ↦ first_stray ends.told t (two.0 + 1) [] ]) ends.goes in
    let none : first_stray nothing_told initial_reading 1 (front ++ (kept ++ last)) ≡ Nothing = one.1 ∙ two.1 ∙ end in
    let same : front ++ (kept ++ last) ≡ kept_rows rows = ap (λ n. front ++ (kept ++ End count n ∷ [])) sum in
    record {
      can = record {
        owned = own;
        fits = (let below = run.mirrors.patterns in let fits = run.mirrors.fits in omega (arith, below, fits, sum));
      };
      reports = subst AreReports same (reports-sound (front ++ (kept ++ last)) none);
    }

pub keeps : (rows : List Row) → NoneWrong 1 rows (first_stray nothing_told initial_reading 1 rows) → Keeps rows
keeps rows h =
    let to = standing nothing_told initial_reading 1 rows h in
    keeps-by rows to.0 to.1 (halves nothing_told to.0 initial_reading to.1 rows to.2)

-- # The text

abbrev fed : ℕ → ℕ
fed b = if eqb b 10 then 1 else 0

feeds-more : (b : ℕ) (bs : List ℕ) → feeds (b ∷ bs) ≡ fed b + feeds bs
feeds-more b bs = sum_by-cons fed b bs

feeds-append : (xs ys : List ℕ) → feeds (xs ++ ys) ≡ feeds xs + feeds ys
feeds-append xs ys = sum_by-append fed xs ys

feeds-none : (xs : List ℕ) → HasNoFeed xs → feeds xs ≡ 0
feeds-none [] h = refl
feeds-none (x ∷ xs) h =
    let off : (b : Bool) → eqb x 10 ≡ b → ◌≡◌ {A = ℕ} (if b then 1 else 0) 0 = λ b. elim b as (λ b. eqb x 10 ≡ b → ◌≡◌ {A = ℕ} (if b then 1 else 0) 0) [
      | true ↦ λ e. absurd (h.0 (eqb-true _ _ e))
      | false ↦ λ e. refl
    ] in
    feeds-more x xs ∙ (let n = off (eqb x 10) refl in omega (arith, n, feeds-none xs h.1))

none-fed : (xs : List ℕ) → feeds xs ≡ 0 → HasNoFeed xs
none-fed [] h = tt
none-fed (x ∷ xs) h =
    let e = feeds-more x xs in (
      λ same. (let one : ◌≡◌ {A = ℕ} (if eqb x 10 then 1 else 0) 1 = ap (λ b. if b then 1 else 0) (eq-eqb _ _ same) in omega (arith, h, e, one)),
      none-fed xs (omega (arith, h, e)),
    )

feeds-lines : (rows : List Row) → AllLines rows → feeds (text_of rows) ≡ length rows
feeds-lines [] h = refl
feeds-lines (r ∷ rows) h =
    let own = feeds-append (line_of r) (text_of rows) in
    let line = feeds-append (row_text r) (10 ∷ []) in
    let none = feeds-none (row_text r) h.0.1 in
    let last : feeds (10 ∷ []) ≡ 1 = refl in
    omega (arith, own, line, none, last, feeds-lines rows h.1)

same-length : (xs ys : List Row) → SameRows xs ys → length xs ≡ length ys
same-length [] [] h = refl
same-length [] (y ∷ ys) h = absurd h
same-length (x ∷ xs) [] h = absurd h
same-length (x ∷ xs) (y ∷ ys) h = (let e = same-length xs ys h.1 in omega (arith, e))

-- what is known of a text whose first wrong line is the one after its last whole line
pub record CutText (text : List ℕ) (rows : List Row) (rest : List ℕ) : Type 0 where
  pub unfed : HasNoFeed rest
  pub count : feeds text ≡ length rows
  pub keeps-rows : Keeps rows
  pub kept-lines : AllLines (kept_rows rows)

pub cut-text : (text : List ℕ) (rows : List Row) (rest : List ℕ) → IsFault text (feeds text + 1) → AllLines rows → text ≡ text_of rows ++ rest
    → ((others : List Row) (after : List ℕ) → AllLines others → text ≡ text_of others ++ after → IsStuck after → SameRows rows others × (rest ≡ after))
    → CutText text rows rest
cut-text text rows rest f lines whole all =
    let same = all f.rows f.rest f.lines f.front f.stuck in
    let o = first_stray nothing_told initial_reading 1 rows in
    let stray : o ≡ first_stray nothing_told initial_reading 1 f.rows = stray-same nothing_told initial_reading 1 rows f.rows same.0 in
    let size = same-length rows f.rows same.0 in
    let sum : feeds text ≡ length rows + feeds rest =
    ap feeds whole ∙ feeds-append (text_of rows) rest ∙ ap (λ n. n + feeds rest) (feeds-lines rows lines) in
    let first : MatchOption o ((f.rest ≢ []) × (feeds text + 1 ≡ length f.rows + 1)) (λ number. feeds text + 1 ≡ number) =
    subst (λ x. MatchOption x ((f.rest ≢ []) × (feeds text + 1 ≡ length f.rows + 1)) (λ number. feeds text + 1 ≡ number)) (sym stray) f.first in
    let Goal = (feeds rest ≡ 0) × NoneWrong 1 rows o in
    let on : (x : Option ℕ) → o ≡ x → MatchOption x ((f.rest ≢ []) × (feeds text + 1 ≡ length f.rows + 1)) (λ number. feeds text + 1 ≡ number) → Goal =
    λ x. elim x as (λ x. o ≡ x → MatchOption x ((f.rest ≢ []) × (feeds text + 1 ≡ length f.rows + 1)) (λ number. feeds text + 1 ≡ number) → Goal) [
      | Nothing ↦ λ e h. ((let k = h.1 in omega (arith, k, sum, size)), λ m g. absurd (let clash : Nothing ≡ Some m = sym e ∙ g in cc))
      | Some number ↦ λ e h.
          (let top = stray-most nothing_told initial_reading 1 rows number e in (
            omega (arith, h, sum, top),
            λ m g. (let is : number ≡ m = (let k : Some number ≡ Some m = sym e ∙ g in cc) in omega (arith, h, sum, is)),
          ))
    ] in
    let found = on o refl first in
    let kept = keeps rows found.1 in
    record {
      unfed = none-fed rest found.0;
      count = (let none = found.0 in omega (arith, sum, none));
      keeps-rows = kept;
      kept-lines = kept-all-lines rows (small-rows (drop (whole_count rows) rows) kept.can.owned) kept.can.fits lines;
    }

pub cut-to : (text made : List ℕ) (cut : Cut) (rows : List Row) (rest : List ℕ) → CutText text rows rest → IsFault text (feeds text + 1) → AllLines rows → text ≡ text_of rows ++ rest
    → made ≡ text_of (kept_rows rows) → cut.line ≡ feeds text → cut.kept ≡ count_by is_close rows → cut.left ≡ count_by is_open rows - count_by is_close rows
    → IsCutTo text made cut
cut-to text made cut rows rest h fault lines whole e line kept left = record {
  rows = rows;
  rest = rest;
  lines = lines;
  front = whole;
  unfed = h.unfed;
  fault = fault;
  count = h.count;
  kept = record { lines = h.kept-lines; whole = e; shape = h.keeps-rows.reports };
  line_is = line;
  kept_is = kept;
  left_is = left;
}
