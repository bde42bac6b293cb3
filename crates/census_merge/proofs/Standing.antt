-- Rows that may each come where they do.
use Rattle.std.proofs.Common.{◌≡◌, ℕ, zero, suc, ◌+◌, ◌<◌, ◌≤◌, Bool, true, false, eqb, ltb, Option, Some, None as Nothing, List, [], ◌∷◌, ◌++◌, ap, ◌∙◌, sym, refl, arith, subst, length, take, drop, inl, inr}
use Rattle.std.specs.Prelude.{◌⊎◌, if◌then◌else◌}
use Rattle.std.proofs.lemmas.Bool.{lt-ltb, ltb-true}
use Rattle.census_rows.specs.declared.row.Row.{Row}
use Rattle.census_rows.specs.declared.row.Row.TheVariants.{Open, Line, Part, Engine, Emits, Code, Close, End}
use Rattle.census_readback.specs.Steps.{Reading, first_stray, is_behind, step}
use Rattle.census_readback.specs.Told.{Told, nothing_told, told_after}
use Rattle.census_readback.proofs.Telling.{told-end}
use Rattle.census_readback.proofs.Alike.{stepping, telling}
use Rattle.std.specs.List.{list_all}
use Rattle.std.specs.Prelude.{◌&&◌}
use Rattle.census_merge.specs.Kept.{is_end, whole_count}

-- each row may come where it does, and what is told and read after them is this
abbrev pub Stand : Told → Reading → List Row → Told → Reading → Type 0
Stand t s [] u v = (t ≡ u) × (s ≡ v)
Stand t s (row ∷ rows) u v = (m : Told) × (k : Reading) × (told_after t row ≡ Some m) × (step s row ≡ Some k) × Stand m k rows u v

-- no row is wrong, except for the one that is missing
abbrev pub NoneWrong : ℕ → List Row → Option ℕ → Type 0
NoneWrong n rows o = (m : ℕ) → o ≡ Some m → n + length rows ≤ m

pub standing : (t : Told) (s : Reading) (n : ℕ) (rows : List Row) → NoneWrong n rows (first_stray t s n rows) → (u : Told) × (v : Reading) × Stand t s rows u v
standing t s n [] h = (t, s, (refl, refl))
standing t s n (r ∷ rows) h =
    let Goal = (u : Told) × (v : Reading) × Stand t s (r ∷ rows) u v in
    let second : (m : Told) → told_after t r ≡ Some m → NoneWrong n (r ∷ rows) (stepping m n rows (step s r)) → Goal = λ m e h.
    (let on : (o : Option Reading) → step s r ≡ o → NoneWrong n (r ∷ rows) (stepping m n rows o) → Goal =
    λ o. elim o as (λ o. step s r ≡ o → NoneWrong n (r ∷ rows) (stepping m n rows o) → Goal) [
      | Nothing ↦ λ f h. absurd (let less : n + length (r ∷ rows) ≤ n = h n refl in omega arith)
      | Some k ↦ λ f h.
          (let rest = standing m k (n + 1) rows (λ x e. let most : n + length (r ∷ rows) ≤ x = h x e in omega arith) in
          (rest.0, rest.1, (m, k, e, f, rest.2)))
    ] in
    on (step s r) refl h) in
    let first : (o : Option Told) → told_after t r ≡ o → NoneWrong n (r ∷ rows) (telling s n r rows o) → Goal =
    λ o. elim o as (λ o. told_after t r ≡ o → NoneWrong n (r ∷ rows) (telling s n r rows o) → Goal) [
      | Nothing ↦ λ e h. absurd (let less : n + length (r ∷ rows) ≤ n = h n refl in omega arith)
      | Some m ↦ λ e h. second m e h
    ] in
    first (told_after t r) refl h

-- a row that is wrong is one of them, or the one that is missing after them
pub stray-most : (t : Told) (s : Reading) (n : ℕ) (rows : List Row) (m : ℕ) → first_stray t s n rows ≡ Some m → m ≤ n + length rows
stray-most t s n [] m h =
    let on : (b : Bool) → (if b then Nothing else Some n) ≡ Some m → m ≤ n + 0 =
    λ b. elim b as (λ b. (if b then Nothing else Some n) ≡ Some m → m ≤ n + 0) [
      | true ↦ λ e. absurd (cc)
      | false ↦ λ e. (let same : n ≡ m = cc in omega arith)
    ] in
    on s.ended h
stray-most t s n (r ∷ rows) m h =
    let here : Some n ≡ Some m → m ≤ n + length (r ∷ rows) = λ e. (let same : n ≡ m = cc in omega arith) in
    let second : (u : Told) (o : Option Reading) → stepping u n rows o ≡ Some m → m ≤ n + length (r ∷ rows) =
    λ u o. elim o as (λ o. stepping u n rows o ≡ Some m → m ≤ n + length (r ∷ rows)) [
      | Nothing ↦ here
      | Some k ↦ λ e. (let most = stray-most u k (n + 1) rows m e in omega arith)
    ] in
    let first : (o : Option Told) → telling s n r rows o ≡ Some m → m ≤ n + length (r ∷ rows) =
    λ o. elim o as (λ o. telling s n r rows o ≡ Some m → m ≤ n + length (r ∷ rows)) [
      | Nothing ↦ here
      | Some u ↦ second u (step s r)
    ] in
    first (told_after t r) h

pub passed : (t u : Told) (s v : Reading) (n : ℕ) (rows others : List Row) → Stand t s rows u v → (m : ℕ) × (first_stray t s n (rows ++ others) ≡ first_stray u v m others)
passed t u s v n [] others h = (n, ap (λ x. first_stray x s n others) h.0 ∙ ap (λ x. first_stray u x n others) h.1)
passed t u s v n (r ∷ rows) others h =
    let rest = passed h.0 u h.1 v (n + 1) rows others h.4 in
    (rest.0, ap (telling s n r (rows ++ others)) h.2 ∙ ap (stepping h.0 n (rows ++ others)) h.3 ∙ rest.1)

-- # Where the last whole report ends

abbrev pub NoEnds : List Row → Type 0
NoEnds [] = Unit {0}
NoEnds (row ∷ rows) = (is_end row ≡ false) × NoEnds rows

-- what is read after a report
abbrev pub ended_reading : Reading
ended_reading = record { places = []; patterns = 0; ended = true }

-- the rows up to there, and those after them
pub record Halves (t : Told) (s : Reading) (rows : List Row) (u : Told) (v : Reading) (n : ℕ) : Type 0 where
  pub told : Told
  pub reading : Reading
  pub front : Stand t s (take n rows) told reading
  pub back : Stand told reading (drop n rows) u v
  pub none : NoEnds (drop n rows)
  pub anew : ((n ≡ 0) × (told ≡ t) × (reading ≡ s)) ⊎ ((told ≡ nothing_told) × (reading ≡ ended_reading))

ended-one : (b : Bool) (s k : Reading) → (if b then Some ended_reading else Nothing) ≡ Some k → k ≡ ended_reading
ended-one true s k h = cc
ended-one false s k h = absurd (cc)

-- after a row that ends a report everything begins anew
after-end : (t m : Told) (s k : Reading) (r : Row) → is_end r ≡ true → told_after t r ≡ Some m → step s r ≡ Some k → (m ≡ nothing_told) × (k ≡ ended_reading)
after-end t m s k (End a b) h e f = (told-end t m a b e, ended-one (list_all is_behind s.places && (eqb (length s.places) a && eqb s.patterns b)) s k f)
after-end t m s k (Open c n name) h e f = absurd (cc)
after-end t m s k (Line c i o name) h e f = absurd (cc)
after-end t m s k (Part c i code n) h e f = absurd (cc)
after-end t m s k (Engine c i g p x y n) h e f = absurd (cc)
after-end t m s k (Emits c i g code n) h e f = absurd (cc)
after-end t m s k (Code c rule code n) h e f = absurd (cc)
after-end t m s k (Close c n a b d) h e f = absurd (cc)

none-more : (w : ℕ) → ltb 0 w ≡ false → w ≡ 0
none-more zero h = refl
none-more (suc w) h = absurd (let some : ltb 0 (suc w) ≡ true = lt-ltb 0 (suc w) (omega arith) in let clash : true ≡ false = sym some ∙ h in cc)

pub halves : (t u : Told) (s v : Reading) (rows : List Row) → Stand t s rows u v → Halves t s rows u v (whole_count rows)
halves t u s v [] h = record { told = t; reading = s; front = (refl, refl); back = h; none = tt; anew = inl (refl, refl, refl) }
halves t u s v (r ∷ rows) h =
    let w = whole_count rows in
    let i = halves h.0 u h.1 v rows h.4 in
    let Goal : ℕ → Type 0 = λ n. Halves t s (r ∷ rows) u v n in
    -- a report ends after this row
    let later : ltb 0 w ≡ true → Goal (w + 1) = λ e.
    (let more : w + 1 ≡ suc w = omega arith in
    let some : 0 < w = ltb-true 0 w e in
    let anew : (i.told ≡ nothing_told) × (i.reading ≡ ended_reading) =
    elim i.anew as (λ _. (i.told ≡ nothing_told) × (i.reading ≡ ended_reading)) [ inl none ↦ absurd (omega (arith, none.0, some)) | inr both ↦ both ] in
    let whole : Goal (suc w) = record { told = i.told; reading = i.reading; front = (h.0, h.1, h.2, h.3, i.front); back = i.back; none = i.none; anew = inr anew } in
    subst Goal (sym more) whole) in
    -- no report ends there
    let front : w ≡ 0 → ((i.told ≡ h.0) × (i.reading ≡ h.1)) ⊎ ((i.told ≡ nothing_told) × (i.reading ≡ ended_reading)) = λ e.
    elim i.anew as (λ _. ((i.told ≡ h.0) × (i.reading ≡ h.1)) ⊎ ((i.told ≡ nothing_told) × (i.reading ≡ ended_reading))) [ inl none ↦ inl (none.1, none.2) | inr both ↦ inr both ] in
    let behind : w ≡ 0 → NoEnds rows = λ e. subst (λ n. NoEnds (drop n rows)) e i.none in
    let now : w ≡ 0 → (b : Bool) → is_end r ≡ b → Goal (if b then 1 else 0) = λ z b. elim b as (λ b. is_end r ≡ b → Goal (if b then 1 else 0)) [
      | true ↦ λ e. record { told = h.0; reading = h.1; front = (h.0, h.1, h.2, h.3, (refl, refl)); back = h.4; none = behind z; anew = inr (after-end t h.0 s h.1 r e h.2 h.3) }
      | false ↦ λ e. record { told = t; reading = s; front = (refl, refl); back = h; none = (e, behind z); anew = inl (refl, refl, refl) }
    ] in
    let on : (b : Bool) → ltb 0 w ≡ b → Goal (if b then w + 1 else (if is_end r then 1 else 0)) =
    λ b. elim b as (λ b. ltb 0 w ≡ b → Goal (if b then w + 1 else (if is_end r then 1 else 0))) [
      | true ↦ later
      | false ↦ λ e. now (none-more w e) (is_end r) refl
    ] in
    on (ltb 0 w) refl
