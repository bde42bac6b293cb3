-- Rows are taken to the end exactly if they are reports.
use Rattle.std.proofs.Common.{◌≡◌, ℕ, zero, suc, ◌+◌, ◌-◌, ◌<◌, ◌≤◌, ◌^◌, Bool, true, false, ◌&&◌, eqb, ltb, leb, Option, Some, None, List, [], ◌∷◌, ◌++◌, ap, ◌∙◌, sym, refl, arith, subst, length, append_assoc}
use Rattle.std.specs.Prelude.{if◌then◌else◌}
use Rattle.std.specs.List.{list_all}
use Rattle.std.proofs.lemmas.Bool.{and_from, and_parts, eq-eqb, eqb-true, le-leb, leb-true, lt-ltb, ltb-true}
use Rattle.std.proofs.lemmas.List.{append-nil}
use Rattle.census_rows.specs.declared.row.Row.{Row}
use Rattle.census_rows.specs.declared.row.Row.TheVariants.{Open, Line, Part, Engine, Emits, Code, Close, End}
use Rattle.census_readback.specs.declared.place.Place.{Place}
use Rattle.census_readback.specs.declared.place.Place.TheVariants.{Before, Within, Behind}
use Rattle.census_readback.specs.Sections.{place_after}
use Rattle.census_readback.specs.Runs.{run}
use Rattle.census_readback.specs.Steps.{Reading, collection_of, patterns_opened, is_behind, place_at, with_place, initial_reading, gone_on, section_step, end_step, step, first_stray}
use Rattle.census_readback.specs.Shapes.{rows_of, AreOfCollections, patterns_in, IsWholeReport, AreWhole, all_rows, AreReports}
use Rattle.census_readback.proofs.Alike.{stepping, telling}
use Rattle.census_readback.proofs.Shaped.{section-sound, section-complete}
use Rattle.census_readback.proofs.Kept.{Kept, kept-none, kept-step, run-split, rows-here, patterns-append}
use Rattle.census_readback.specs.Limits.{count_limit}
use Rattle.census_readback.specs.Told.{Told, nothing_told, told_after, told_by}
use Rattle.census_readback.proofs.Telling.{told-end, told-first, told-last, told-more}

-- # Steps

if-some : (b : Bool) (x : Option Reading) (t : Reading) → (if b then x else None) ≡ Some t → (b ≡ true) × (x ≡ Some t)
if-some true x t h = (refl, h)
if-some false x t h = absurd (cc)

-- a row of a collection that has been taken
pub record Taken (s t : Reading) (r : Row) : Type 0 where
  pub place : Place
  pub low : 0 < collection_of r
  pub high : collection_of r ≤ count_limit
  pub goes : place_after (place_at s.places (collection_of r - 1)) r ≡ Some place
  pub fits : s.patterns + patterns_opened r < 2 ^ 64
  pub is : t ≡ record { places = with_place s.places (collection_of r - 1) place; patterns = s.patterns + patterns_opened r; ended = false }

gone-some : (s t : Reading) (i n : ℕ) (o : Option Place) → gone_on s i n o ≡ Some t
    → (p : Place) × (o ≡ Some p) × (s.patterns + n < 2 ^ 64) × (t ≡ record { places = with_place s.places i p; patterns = s.patterns + n; ended = false })
gone-some s t i n None h = absurd (cc)
gone-some s t i n (Some p) h =
    let u : Reading = record { places = with_place s.places i p; patterns = s.patterns + n; ended = false } in
    let k = if-some (ltb (s.patterns + n) (2 ^ 64)) (Some u) t h in
    let same : t ≡ u = (let e : Some u ≡ Some t = k.1 in cc) in
    (p, refl, ltb-true _ _ k.0, same)

pub taken : (s t : Reading) (r : Row) → section_step s r ≡ Some t → Taken s t r
taken s t r h =
    let i = collection_of r - 1 in
    let o = place_after (place_at s.places i) r in
    let k = if-some (ltb 0 (collection_of r) && leb (collection_of r) count_limit) (gone_on s i (patterns_opened r) o) t h in
    let b = and_parts (ltb 0 (collection_of r)) (leb (collection_of r) count_limit) k.0 in
    let g = gone-some s t i (patterns_opened r) o k.1 in
    record {
      place = g.0;
      low = ltb-true _ _ b.0;
      high = leb-true _ _ b.1;
      goes = g.1;
      fits = g.2;
      is = g.3;
    }

-- a row of a collection that may come here is taken
pub taking : (s : Reading) (r : Row) (p : Place) → 0 < collection_of r → collection_of r ≤ count_limit
    → place_after (place_at s.places (collection_of r - 1)) r ≡ Some p → s.patterns + patterns_opened r < 2 ^ 64
    → section_step s r ≡ Some (record { places = with_place s.places (collection_of r - 1) p; patterns = s.patterns + patterns_opened r; ended = false })
taking s r p low high goes fits =
    let i = collection_of r - 1 in
    let o = place_after (place_at s.places i) r in
    let u : Reading = record { places = with_place s.places i p; patterns = s.patterns + patterns_opened r; ended = false } in
    let pass : (ltb 0 (collection_of r) && leb (collection_of r) count_limit) ≡ true = and_from _ _ (lt-ltb _ _ low) (le-leb _ _ high) in
    let small : ltb (s.patterns + patterns_opened r) (2 ^ 64) ≡ true = lt-ltb _ _ fits in
    ap (λ v. if v then gone_on s i (patterns_opened r) o else None) pass
    ∙ ap (λ (w : Option Place). gone_on s i (patterns_opened r) w) goes
    ∙ ap (λ v. if v then Some u else None) small

-- a row with a collection's number is no `end` row
pub section-is-step : (s : Reading) (r : Row) → 0 < collection_of r → step s r ≡ section_step s r
section-is-step s (Open c n name) h = refl
section-is-step s (Line c i o name) h = refl
section-is-step s (Part c i code k) h = refl
section-is-step s (Engine c i e p x y k) h = refl
section-is-step s (Emits c i e code k) h = refl
section-is-step s (Code c rule code k) h = refl
section-is-step s (Close c n a b d) h = refl
section-is-step s (End n k) h = absurd (omega arith)

-- # From steps to reports

step-some : (u : Told) (n : ℕ) (rows : List Row) (o : Option Reading) → stepping u n rows o ≡ None → (t : Reading) × (o ≡ Some t) × (first_stray u t (n + 1) rows ≡ None)
step-some u n rows None h = absurd (cc)
step-some u n rows (Some t) h = (t, refl, h)

tell-some : (s : Reading) (n : ℕ) (r : Row) (rows : List Row) (o : Option Told) → telling s n r rows o ≡ None
    → (u : Told) × (o ≡ Some u) × (stepping u n rows (step s r) ≡ None)
tell-some s n r rows None h = absurd (cc)
tell-some s n r rows (Some u) h = (u, refl, h)

-- a row that has been taken, and the others
record Stepped (v : Told) (s : Reading) (n : ℕ) (r : Row) (rows : List Row) : Type 0 where
  told : Told
  reading : Reading
  tells : told_after v r ≡ Some told
  goes : step s r ≡ Some reading
  others : first_stray told reading (n + 1) rows ≡ None

stepped : (v : Told) (s : Reading) (n : ℕ) (r : Row) (rows : List Row) → first_stray v s n (r ∷ rows) ≡ None → Stepped v s n r rows
stepped v s n r rows h =
    let one = tell-some s n r rows (told_after v r) h in
    let two = step-some one.0 n rows (step s r) one.2 in
    record { told = one.0; reading = two.0; tells = one.1; goes = two.1; others = two.2 }

-- reports that begin with these rows
record Found (ended : Bool) (rows : List Row) : Type 0 where
  reports : List (List Row)
  whole : rows ≡ all_rows reports
  each : AreWhole reports
  some : ended ≡ false → 0 < length reports

behind-at : (xs : List Place) (k : ℕ) → list_all is_behind xs ≡ true → k < length xs → place_at xs k ≡ Behind
behind-at [] k h less = absurd (omega arith)
behind-at (Before ∷ xs) k h less = absurd (cc)
behind-at (Within t ∷ xs) k h less = absurd (cc)
behind-at (Behind ∷ xs) zero h less = refl
behind-at (Behind ∷ xs) (suc k) h less = behind-at xs k h (omega arith)

whole-report : (s : Reading) (seen : List Row) (n k : ℕ) → Kept s seen → list_all is_behind s.places ≡ true → length s.places ≡ n → s.patterns ≡ k
    → told_by nothing_told (seen ++ End n k ∷ []) ≡ Some nothing_told → IsWholeReport (seen ++ End n k ∷ [])
whole-report s seen n k kept all size total tells = record {
  body = seen;
  collections = n;
  whole = ap (λ m. seen ++ End n m ∷ []) (sym total ∙ kept.sum);
  owned = subst (λ m. AreOfCollections m seen) size kept.owned;
  sections = λ c low high.
      (let number : (c - 1) + 1 ≡ c = omega arith in
      let inside : c - 1 < length s.places = omega arith in
      section-sound (rows_of c seen)
      (ap (λ m. run Before (rows_of m seen)) (sym number) ∙ kept.places (c - 1) ∙ ap (λ (w : Place). Some w) (behind-at s.places (c - 1) all inside)));
  few = omega (arith, kept.few, size);
  fits = (let e : patterns_in seen ≡ s.patterns = sym kept.sum in omega (arith, kept.fits, e));
  tells = tells;
}

ended-step : (s t : Reading) (n k : ℕ) → end_step s n k ≡ Some t
    → (list_all is_behind s.places ≡ true) × (length s.places ≡ n) × (s.patterns ≡ k) × (t ≡ record { places = []; patterns = 0; ended = true })
ended-step s t n k h =
    let u : Reading = record { places = []; patterns = 0; ended = true } in
    let j = if-some (list_all is_behind s.places && (eqb (length s.places) n && eqb s.patterns k)) (Some u) t h in
    let b1 = and_parts (list_all is_behind s.places) (eqb (length s.places) n && eqb s.patterns k) j.0 in
    let b2 = and_parts (eqb (length s.places) n) (eqb s.patterns k) b1.1 in
    let same : t ≡ u = (let e : Some u ≡ Some t = j.1 in cc) in
    (b1.0, eqb-true _ _ b2.0, eqb-true _ _ b2.1, same)

-- one more row of a section
going : (s t : Reading) (seen : List Row) (r : Row) → Kept s seen → section_step s r ≡ Some t → Kept t (seen ++ r ∷ []) × (t.ended ≡ false)
going s t seen r kept h =
    let g = taken s t r h in
    (subst (λ (w : Reading). Kept w (seen ++ r ∷ [])) (sym g.is) (kept-step s seen r g.place kept g.low g.high g.goes g.fits), ap (λ (w : Reading). w.ended) g.is)

carried : (t : Reading) (ended : Bool) (seen : List Row) (r : Row) (rows : List Row) → Found t.ended ((seen ++ r ∷ []) ++ rows) → t.ended ≡ false → Found ended (seen ++ r ∷ rows)
carried t ended seen r rows f e = record {
  reports = f.reports;
  whole = sym (append_assoc seen (r ∷ []) rows) ∙ f.whole;
  each = f.each;
  some = λ _. f.some e;
}

found : (v : Told) (s : Reading) (n : ℕ) (seen rows : List Row) → Kept s seen → told_by nothing_told seen ≡ Some v → (s.ended ≡ true → seen ≡ [])
    → first_stray v s n rows ≡ None → Found s.ended (seen ++ rows)
found v s n seen [] kept told none h =
    let on : (e : Bool) → s.ended ≡ e → (if e then None else Some n) ≡ None → Found e (seen ++ []) =
    λ e. elim e as (λ e. s.ended ≡ e → (if e then None else Some n) ≡ None → Found e (seen ++ [])) [
      | true ↦ λ e k. record { reports = []; whole = append-nil seen ∙ none e; each = tt; some = λ f. absurd (cc (f)) }
      | false ↦ λ e k. absurd (cc)
    ] in
    on s.ended refl h
found v s n seen (End m k ∷ rows) kept told none h =
    let st = stepped v s n (End m k) rows h in
    let t = st.reading in
    let e = ended-step s t m k st.goes in
    let anew : st.told ≡ nothing_told = told-end v st.told m k st.tells in
    let tells : told_by nothing_told (seen ++ End m k ∷ []) ≡ Some nothing_told =
    told-more nothing_told v st.told seen (End m k) told st.tells ∙ ap (λ (w : Told). Some w) anew in
    let report = whole-report s seen m k kept e.0 e.1 e.2 tells in
    let empty : t.places ≡ [] = ap (λ (w : Reading). w.places) e.3 in
    let nothing : t.patterns ≡ 0 = ap (λ (w : Reading). w.patterns) e.3 in
    let others = found nothing_told t (n + 1) [] rows (kept-none t empty nothing) refl (λ _. refl)
    (subst (λ (w : Told). first_stray w t (n + 1) rows ≡ None) anew st.others) in
    record {
      reports = (seen ++ End m k ∷ []) ∷ others.reports;
      whole = sym (append_assoc seen (End m k ∷ []) rows) ∙ ap (λ w. (seen ++ End m k ∷ []) ++ w) others.whole;
      each = (report, others.each);
      some = λ _. omega arith;
    }
found v s n seen (Open c m name ∷ rows) kept told none h =
    let st = stepped v s n (Open c m name) rows h in
    let g = going s st.reading seen (Open c m name) kept st.goes in
    carried st.reading s.ended seen (Open c m name) rows
    (found st.told st.reading (n + 1) (seen ++ Open c m name ∷ []) rows g.0 (told-more nothing_told v st.told seen (Open c m name) told st.tells) (λ e. absurd (cc (e, g.1))) st.others) g.1
found v s n seen (Line c i o name ∷ rows) kept told none h =
    let st = stepped v s n (Line c i o name) rows h in
    let g = going s st.reading seen (Line c i o name) kept st.goes in
    carried st.reading s.ended seen (Line c i o name) rows
    (found st.told st.reading (n + 1) (seen ++ Line c i o name ∷ []) rows g.0 (told-more nothing_told v st.told seen (Line c i o name) told st.tells) (λ e. absurd (cc (e, g.1))) st.others) g.1
found v s n seen (Part c i code k ∷ rows) kept told none h =
    let st = stepped v s n (Part c i code k) rows h in
    let g = going s st.reading seen (Part c i code k) kept st.goes in
    carried st.reading s.ended seen (Part c i code k) rows
    (found st.told st.reading (n + 1) (seen ++ Part c i code k ∷ []) rows g.0 (told-more nothing_told v st.told seen (Part c i code k) told st.tells) (λ e. absurd (cc (e, g.1))) st.others) g.1
found v s n seen (Engine c i m p x y k ∷ rows) kept told none h =
    let st = stepped v s n (Engine c i m p x y k) rows h in
    let g = going s st.reading seen (Engine c i m p x y k) kept st.goes in
    carried st.reading s.ended seen (Engine c i m p x y k) rows
    (found st.told st.reading (n + 1) (seen ++ Engine c i m p x y k ∷ []) rows g.0 (told-more nothing_told v st.told seen (Engine c i m p x y k) told st.tells) (λ e. absurd (cc (e, g.1))) st.others) g.1
found v s n seen (Emits c i m code k ∷ rows) kept told none h =
    let st = stepped v s n (Emits c i m code k) rows h in
    let g = going s st.reading seen (Emits c i m code k) kept st.goes in
    carried st.reading s.ended seen (Emits c i m code k) rows
    (found st.told st.reading (n + 1) (seen ++ Emits c i m code k ∷ []) rows g.0 (told-more nothing_told v st.told seen (Emits c i m code k) told st.tells) (λ e. absurd (cc (e, g.1))) st.others) g.1
found v s n seen (Code c rule code k ∷ rows) kept told none h =
    let st = stepped v s n (Code c rule code k) rows h in
    let g = going s st.reading seen (Code c rule code k) kept st.goes in
    carried st.reading s.ended seen (Code c rule code k) rows
    (found st.told st.reading (n + 1) (seen ++ Code c rule code k ∷ []) rows g.0 (told-more nothing_told v st.told seen (Code c rule code k) told st.tells) (λ e. absurd (cc (e, g.1))) st.others) g.1
found v s n seen (Close c m a b d ∷ rows) kept told none h =
    let st = stepped v s n (Close c m a b d) rows h in
    let g = going s st.reading seen (Close c m a b d) kept st.goes in
    carried st.reading s.ended seen (Close c m a b d) rows
    (found st.told st.reading (n + 1) (seen ++ Close c m a b d ∷ []) rows g.0 (told-more nothing_told v st.told seen (Close c m a b d) told st.tells) (λ e. absurd (cc (e, g.1))) st.others) g.1

pub reports-sound : (rows : List Row) → first_stray nothing_told initial_reading 1 rows ≡ None → AreReports rows
reports-sound rows h =
    let f = found nothing_told initial_reading 1 [] rows (kept-none initial_reading refl refl) refl (λ e. refl) h in
    record { reports = f.reports; some = f.some refl; whole = f.whole; each = f.each }

-- # From reports to steps

-- rows of a body are taken
body : (v w : Told) (s : Reading) (n : ℕ) (seen rows rest : List Row) (most : ℕ) → told_by v rows ≡ Some w → Kept s seen → AreOfCollections most rows → most ≤ count_limit
    → ((c : ℕ) → 0 < c → c ≤ most → (z : Place) × (run Before (rows_of c (seen ++ rows)) ≡ Some z)) → patterns_in (seen ++ rows) < 2 ^ 64
    → (t : Reading) × (m : ℕ) × Kept t (seen ++ rows) × (first_stray v s n (rows ++ rest) ≡ first_stray w t m rest)
body v w s n seen [] rest most told kept owned few runs fits =
    let same : v ≡ w = (let e : Some v ≡ Some w = told in cc) in
    (s, n, rw append-nil kept, ap (λ x. first_stray x s n rest) same)
body v w s n seen (r ∷ rows) rest most told kept owned few runs fits =
    let first = told-first v w r rows told in
    let c = collection_of r in
    let number : (c - 1) + 1 ≡ c = omega (arith, owned.0) in
    let whole = runs c owned.0 owned.1 in
    let here : rows_of c (seen ++ r ∷ rows) ≡ rows_of c seen ++ r ∷ rows_of c rows = rows-here c seen r rows (eq-eqb c c refl) in
    let before : run Before (rows_of c seen) ≡ Some (place_at s.places (c - 1)) = ap (λ m. run Before (rows_of m seen)) (sym number) ∙ kept.places (c - 1) in
    let goes = run-split Before (place_at s.places (c - 1)) whole.0 (rows_of c seen) r (rows_of c rows) before (sym (ap (run Before) here) ∙ whole.1) in
    let sum : patterns_in (seen ++ r ∷ rows) ≡ patterns_in seen + (patterns_opened r + patterns_in rows) = patterns-append seen (r ∷ rows) in
    let small : s.patterns + patterns_opened r < 2 ^ 64 = omega (arith, kept.sum, sum) in
    let high : c ≤ count_limit = omega (arith, owned.1) in
    let t : Reading = record { places = with_place s.places (c - 1) goes.0; patterns = s.patterns + patterns_opened r; ended = false } in
    let is : step s r ≡ Some t = section-is-step s r owned.0 ∙ taking s r goes.0 owned.0 high goes.1 small in
    let assoc : (seen ++ r ∷ []) ++ rows ≡ seen ++ r ∷ rows = append_assoc seen (r ∷ []) rows in
    let others = body first.0 w t (n + 1) (seen ++ r ∷ []) rows rest most first.2 (kept-step s seen r goes.0 kept owned.0 high goes.1 small) owned.2 few
    (λ d low most_d. (let z = runs d low most_d in (z.0, ap (λ w. run Before (rows_of d w)) assoc ∙ z.1))) (rw assoc fits) in (
      others.0,
      others.1,
      subst (λ w. Kept others.0 w) assoc others.2,
      ap (telling s n r (rows ++ rest)) first.1 ∙ ap (stepping first.0 n (rows ++ rest)) is ∙ others.3,
    )

pub all-behind : (xs : List Place) → ((i : ℕ) → i < length xs → is_behind (place_at xs i) ≡ true) → list_all is_behind xs ≡ true
all-behind [] h = refl
all-behind (x ∷ xs) h = and_from (is_behind x) (list_all is_behind xs) (h 0 (omega arith)) (all-behind xs (λ i less. h (suc i) (omega arith)))

-- at least n places, if the first n are the ends of sections
enough : (xs : List Place) (n : ℕ) → ((j : ℕ) → j < n → place_at xs j ≡ Behind) → n ≤ length xs
enough [] zero h = omega arith
enough [] (suc n) h = absurd (let e : Before ≡ Behind = h 0 (omega arith) in cc)
enough (x ∷ xs) zero h = omega arith
enough (x ∷ xs) (suc n) h = (let rest : n ≤ length xs = enough xs n (λ j less. h (suc j) (omega arith)) in omega arith)

-- a report is taken, and what follows begins anew
report : (s : Reading) (n : ℕ) (rows rest : List Row) → Kept s [] → IsWholeReport rows
    → (m : ℕ) × (first_stray nothing_told s n (rows ++ rest) ≡ first_stray nothing_told (record { places = []; patterns = 0; ended = true }) m rest)
report s n rows rest kept is =
    let u : Reading = record { places = []; patterns = 0; ended = true } in
    let k = patterns_in is.body in
    let last = End is.collections k in
    let ended : (c : ℕ) → 0 < c → c ≤ is.collections → run Before (rows_of c is.body) ≡ Some Behind = λ c low high. section-complete (rows_of c is.body) (is.sections c low high) in
    let told = told-last nothing_told nothing_told is.body last (sym (ap (told_by nothing_told) is.whole) ∙ is.tells) in
    let b = body nothing_told told.0 s n [] is.body (last ∷ rest) is.collections told.1 kept is.owned is.few (λ c low high. (Behind, ended c low high)) is.fits in
    let t = b.0 in
    let here : (j : ℕ) → j < is.collections → place_at t.places j ≡ Behind = λ j less.
    (let e1 : run Before (rows_of (j + 1) is.body) ≡ Some Behind = ended (j + 1) (omega arith) (omega arith) in
    let e2 : run Before (rows_of (j + 1) is.body) ≡ Some (place_at t.places j) = b.2.places j in
    let e3 : Some (place_at t.places j) ≡ Some Behind = sym e2 ∙ e1 in cc) in
    let most : length t.places ≤ is.collections = b.2.under is.collections is.owned in
    let least : is.collections ≤ length t.places = enough t.places is.collections here in
    let size : length t.places ≡ is.collections = omega arith in
    let all = all-behind t.places (λ j less. ap is_behind (here j (omega arith))) in
    let pass : (list_all is_behind t.places && (eqb (length t.places) is.collections && eqb t.patterns k)) ≡ true =
    and_from _ _ all (and_from _ _ (eq-eqb _ _ size) (eq-eqb _ _ b.2.sum)) in
    let taken_end : step t last ≡ Some u = ap (λ v. if v then Some u else None) pass in (
      b.1 + 1,
      ap (λ w. first_stray nothing_told s n (w ++ rest)) is.whole ∙ ap (λ w. first_stray nothing_told s n w) (append_assoc is.body (last ∷ []) rest) ∙ b.3
          ∙ ap (telling t b.1 last rest) told.2 ∙ ap (stepping nothing_told b.1 rest) taken_end,
    )

several : (s : Reading) (n : ℕ) (reports : List (List Row)) → Kept s [] → AreWhole reports → (length reports ≡ 0 → s.ended ≡ true) → first_stray nothing_told s n (all_rows reports) ≡ None
several s n [] kept each some = ap (λ v. if v then None else Some n) (some refl)
several s n (rows ∷ reports) kept each some =
    let u : Reading = record { places = []; patterns = 0; ended = true } in
    let one = report s n rows (all_rows reports) kept each.0 in
    one.1 ∙ several u one.0 reports (kept-none u refl refl) each.1 (λ _. refl)

pub reports-complete : (rows : List Row) → AreReports rows → first_stray nothing_told initial_reading 1 rows ≡ None
reports-complete rows is =
    ap (first_stray nothing_told initial_reading 1) is.whole ∙ several initial_reading 1 is.reports (kept-none initial_reading refl refl) is.each (λ e. absurd (omega (arith, e, is.some)))
