-- The tokens of cells in order are those of their rows.
use Rattle.std.proofs.Common.{◌≡◌, ℕ, zero, suc, ◌+◌, ◌-◌, ◌<◌, ◌≤◌, Bool, true, false, ◌||◌, ◌==◌, nat_eq, if◌then◌else◌, List, [], ◌∷◌, ◌++◌, map, sym, refl, ap, ◌∙◌, arith}
use Rattle.std.specs.List.{range_with_len}
use Rattle.std.proofs.lemmas.Bool.Decides.{nat_tests}
use Rattle.life_model.specs.Box.{extent}
use Rattle.texts.specs.Bytes.{is_in}
use Rattle.life_text.specs.RleText.{onto_rows, drawn_rows, run_onto, runs_of, run_token, row_tokens, tokens_of_rows}
use Rattle.life_text.specs.Writer.{with_token, onto_run, tokens_from}
use Rattle.life_text.proofs.PlaceLemmas.{IsBehind, BeginsAbove}

-- # The runs of one row

-- n dead cells before a live one
abbrev dead : ℕ → List (ℕ × Bool) → List (ℕ × Bool)
dead zero runs = runs
dead (suc n) runs = (suc n, false) ∷ runs

-- the runs of live columns, from a column on
abbrev gap_runs : ℕ → List ℕ → List (ℕ × Bool)
gap_runs x [] = []
gap_runs x (c ∷ columns) = dead (c - x) (run_onto true (gap_runs (c + 1) columns))

abbrev Rises : ℕ → List ℕ → Type 0
Rises x [] = Unit {0}
Rises x (c ∷ columns) = (x ≤ c) × Rises (c + 1) columns

dead_more : (n : ℕ) (runs : List (ℕ × Bool)) → run_onto false (dead n (run_onto true runs)) ≡ dead (suc n) (run_onto true runs)
dead_more zero [] = refl
dead_more zero ((n, true) ∷ runs) = refl
dead_more zero ((n, false) ∷ runs) = refl
dead_more (suc n) runs = let more : suc n + 1 ≡ suc (suc n) = omega arith in ap (λ k. (k, false) ∷ run_onto true runs) more

none_before : (columns : List ℕ) (x k : ℕ) → Rises x columns → k < x → is_in columns k ≡ false
none_before [] x k h lt = refl
none_before (c ∷ columns) x k h lt =
    let other : nat_eq c k ≡ false = apart c k (omega arith) in
    ap (λ b. b || is_in columns k) other ∙ none_before columns (c + 1) k h.1 (omega arith)
  where
    apart : (c k : ℕ) → k < c → nat_eq c k ≡ false
    apart c k h = grind (arith, nat_tests)

-- the runs from a column on to a live one and after it
runs_to : (p : ℕ → Bool) (n x c m t : ℕ) → x + n ≡ c → t ≡ n + m → ((k : ℕ) → x ≤ k → k < c → p k ≡ false) → p c ≡ true
    → runs_of (map p (range_with_len x (suc t))) ≡ dead n (run_onto true (runs_of (map p (range_with_len (c + 1) m))))
runs_to p zero x c m t e f none here =
    let place : x ≡ c = omega arith in
    let size : t ≡ m = omega arith in
    ap (λ k. run_onto (p k) (runs_of (map p (range_with_len (k + 1) t)))) place
    ∙ ap (λ l. run_onto (p c) (runs_of (map p (range_with_len (c + 1) l)))) size
    ∙ ap (λ b. run_onto b (runs_of (map p (range_with_len (c + 1) m)))) here
runs_to p (suc n) x c m zero e f none here = absurd (omega arith)
runs_to p (suc n) x c m (suc t) e f none here =
    let first : p x ≡ false = none x (omega arith) (omega arith) in
    ap (λ b. run_onto b (runs_of (map p (range_with_len (x + 1) (suc t))))) first
    ∙ ap (run_onto false) (runs_to p n (x + 1) c m t (omega arith) (omega arith) (λ k lo hi. none k (omega arith) hi) here)
    ∙ dead_more n (runs_of (map p (range_with_len (c + 1) m)))

same_values : (p q : ℕ → Bool) (a n : ℕ) → ((k : ℕ) → a ≤ k → p k ≡ q k) → map p (range_with_len a n) ≡ map q (range_with_len a n)
same_values p q a zero h = refl
same_values p q a (suc n) h = λ i. h a (omega arith) i ∷ same_values p q (a + 1) n (λ k lo. h k (omega arith)) i

-- the runs of a row, from a column on
runs_are : (columns : List ℕ) (x t : ℕ) → Rises x columns → t ≡ extent columns - x → runs_of (map (is_in columns) (range_with_len x t)) ≡ gap_runs x columns
runs_are [] x t h e = let none : t ≡ 0 = omega arith in ap (λ n. runs_of (map (is_in []) (range_with_len x n))) none
runs_are (c ∷ columns) x zero h e = absurd (omega arith)
runs_are (c ∷ columns) x (suc t) h e =
    runs_to (is_in (c ∷ columns)) (c - x) x c (extent columns - (c + 1)) t (omega arith) (omega arith) none here
    ∙ ap (λ values. dead (c - x) (run_onto true (runs_of values))) (same_values (is_in (c ∷ columns)) (is_in columns) (c + 1) (extent columns - (c + 1)) (λ k lo. ap (λ b. b || is_in columns k) (apart k lo)))
    ∙ ap (λ runs. dead (c - x) (run_onto true runs)) (runs_are columns (c + 1) (extent columns - (c + 1)) h.1 refl)
  where
    apart : (k : ℕ) → c + 1 ≤ k → nat_eq c k ≡ false
    apart k lo = grind (arith, nat_tests)

    same : (d : ℕ) → nat_eq d d ≡ true
    same d = grind (arith, nat_tests)

    below : (k : ℕ) → k < c → nat_eq c k ≡ false
    below k hi = grind (arith, nat_tests)

    none : (k : ℕ) → x ≤ k → k < c → is_in (c ∷ columns) k ≡ false
    none k lo hi = ap (λ b. b || is_in columns k) (below k hi) ∙ none_before columns (c + 1) k h.1 (omega arith)

    here : is_in (c ∷ columns) c ≡ true
    here = ap (λ b. b || is_in columns c) (same c)

row_is : (columns : List ℕ) → Rises 0 columns → row_tokens columns ≡ map run_token (gap_runs 0 columns)
row_is columns h = ap (map run_token) (runs_are columns 0 (extent columns) h (omega arith))

-- # The rows

-- what follows the tokens of a row
abbrev behind_row : ℕ → List (ℕ × List ℕ) → List (ℕ × ℕ)
behind_row y [] = (1, 33) ∷ []
behind_row y ((z, columns) ∷ rows) = (z - y, 36) ∷ tokens_of_rows ((z, columns) ∷ rows)

first_row : (y : ℕ) (columns : List ℕ) (rows : List (ℕ × List ℕ)) → tokens_of_rows ((y, columns) ∷ rows) ≡ row_tokens columns ++ behind_row y rows
first_row y columns [] = refl
first_row y columns ((z, others) ∷ rows) = refl

dead_token : (n : ℕ) (runs : List (ℕ × Bool)) (tokens : List (ℕ × ℕ)) → with_token n 98 (map run_token runs ++ tokens) ≡ map run_token (dead n runs) ++ tokens
dead_token zero runs tokens = refl
dead_token (suc n) runs tokens = some n (suc n == 0) (no_zero n)
  where
    no_zero : (k : ℕ) → (suc k == 0) ≡ false
    no_zero k = grind (arith, nat_tests)

    some : (k : ℕ) (b : Bool) → b ≡ false → (if b then map run_token runs ++ tokens else (suc k, 98) ∷ (map run_token runs ++ tokens)) ≡ (suc k, 98) ∷ (map run_token runs ++ tokens)
    some k b e = ap (λ d. if d then map run_token runs ++ tokens else (suc k, 98) ∷ (map run_token runs ++ tokens)) e

live_token : (runs : List (ℕ × Bool)) (y : ℕ) (rows : List (ℕ × List ℕ)) → onto_run 1 (map run_token runs ++ behind_row y rows) ≡ map run_token (run_onto true runs) ++ behind_row y rows
live_token [] y [] = refl
live_token [] y ((z, columns) ∷ rows) = refl
live_token ((n, true) ∷ runs) y rows = let more : 1 + n ≡ n + 1 = omega arith in ap (λ k. (k, 111) ∷ (map run_token runs ++ behind_row y rows)) more
live_token ((n, false) ∷ runs) y rows = refl

-- the first row of cells in order
record Front (c : ℕ × ℕ) (cs : List (ℕ × ℕ)) : Type 0 where
  columns : List ℕ
  others : List (ℕ × List ℕ)
  rows : drawn_rows (c ∷ cs) ≡ (c.1, c.0 ∷ columns) ∷ others
  rises : Rises (c.0 + 1) columns
  tokens : onto_run 1 (tokens_from c.1 (c.0 + 1) cs) ≡ map run_token (run_onto true (gap_runs (c.0 + 1) columns)) ++ behind_row c.1 others

-- the tokens from a row on that has the next cell
in_row : (y x : ℕ) (c : ℕ × ℕ) (cs : List (ℕ × ℕ)) (f : Front c cs) → c.1 ≡ y → tokens_from y x (c ∷ cs) ≡ map run_token (gap_runs x (c.0 ∷ f.columns)) ++ behind_row c.1 f.others
in_row y x c cs f e =
    let none : c.1 - y ≡ 0 = omega arith in
    let same : (c.1 == y) ≡ true = grind (arith, nat_tests) in
    ap (λ n. with_token n 36 (with_token (c.0 - (if c.1 == y then x else 0)) 98 (onto_run 1 (tokens_from c.1 (c.0 + 1) cs)))) none
    ∙ ap (λ b. with_token (c.0 - (if b then x else 0)) 98 (onto_run 1 (tokens_from c.1 (c.0 + 1) cs))) same
    ∙ ap (with_token (c.0 - x) 98) f.tokens
    ∙ dead_token (c.0 - x) (run_onto true (gap_runs (c.0 + 1) f.columns)) (behind_row c.1 f.others)

-- the tokens from a row on above that of the next cell
below_row : (y x : ℕ) (c : ℕ × ℕ) (cs : List (ℕ × ℕ)) (f : Front c cs) → y < c.1 → tokens_from y x (c ∷ cs) ≡ behind_row y ((c.1, c.0 ∷ f.columns) ∷ f.others)
below_row y x c cs f lt =
    let some : (c.1 - y == 0) ≡ false = grind (arith, nat_tests) in
    let other : (c.1 == y) ≡ false = grind (arith, nat_tests) in
    ap (λ b. if b then with_token (c.0 - (if c.1 == y then x else 0)) 98 (onto_run 1 (tokens_from c.1 (c.0 + 1) cs)) else (c.1 - y, 36) ∷ with_token (c.0 - (if c.1 == y then x else 0)) 98 (onto_run 1 (tokens_from c.1 (c.0 + 1) cs))) some
    ∙ ap (λ b. (c.1 - y, 36) ∷ with_token (c.0 - (if b then x else 0)) 98 (onto_run 1 (tokens_from c.1 (c.0 + 1) cs))) other
    ∙ ap (λ ts. (c.1 - y, 36) ∷ with_token (c.0 - 0) 98 ts) f.tokens
    ∙ ap (λ ts. (c.1 - y, 36) ∷ ts)
    (dead_token (c.0 - 0) (run_onto true (gap_runs (c.0 + 1) f.columns)) (behind_row c.1 f.others)
    ∙ ap (λ ts. ts ++ behind_row c.1 f.others) (sym (row_is (c.0 ∷ f.columns) (omega arith, f.rises)))
    ∙ sym (first_row c.1 (c.0 ∷ f.columns) f.others))

front : (c : ℕ × ℕ) (cs : List (ℕ × ℕ)) → IsBehind c.1 (c.0 + 1) cs → Front c cs
front c [] h = record { columns = []; others = []; rows = refl; rises = tt; tokens = refl }
front c (d ∷ ds) h = by_row (front d ds h.2) (c.1 == d.1) refl
  where
    by_row : Front d ds → (b : Bool) → (c.1 == d.1) ≡ b → Front c (d ∷ ds)
    by_row f true e =
        let same : d.1 ≡ c.1 = grind (arith, nat_tests) in
        record {
          columns = d.0 ∷ f.columns;
          others = f.others;
          rows = ap (onto_rows c) f.rows
              ∙ ap (λ b. if b then (d.1, c.0 ∷ d.0 ∷ f.columns) ∷ f.others else (c.1, c.0 ∷ []) ∷ (d.1, d.0 ∷ f.columns) ∷ f.others) e
              ∙ ap (λ y. (y, c.0 ∷ d.0 ∷ f.columns) ∷ f.others) same;
          rises = (h.1 same, f.rises);
          tokens = ap (onto_run 1) (in_row c.1 (c.0 + 1) d ds f same)
              ∙ live_token (gap_runs (c.0 + 1) (d.0 ∷ f.columns)) d.1 f.others
              ∙ ap (λ y. map run_token (run_onto true (gap_runs (c.0 + 1) (d.0 ∷ f.columns))) ++ behind_row y f.others) same;
        }
    by_row f false e =
        let lower : c.1 < d.1 = grind (arith, nat_tests) in
        record {
          columns = [];
          others = (d.1, d.0 ∷ f.columns) ∷ f.others;
          rows = ap (onto_rows c) f.rows
              ∙ ap (λ b. if b then (d.1, c.0 ∷ d.0 ∷ f.columns) ∷ f.others else (c.1, c.0 ∷ []) ∷ (d.1, d.0 ∷ f.columns) ∷ f.others) e;
          rises = tt;
          tokens = ap (onto_run 1) (below_row c.1 (c.0 + 1) d ds f lower);
        }

-- the tokens of cells in order that begin in the first row
pub tokens_are : (cells : List (ℕ × ℕ)) → IsBehind 0 0 cells → BeginsAbove cells → tokens_from 0 0 cells ≡ tokens_of_rows (drawn_rows cells)
tokens_are [] h first = refl
tokens_are (c ∷ cs) h first =
    let f = front c cs h.2 in
    in_row 0 0 c cs f first
    ∙ ap (λ ts. ts ++ behind_row c.1 f.others) (sym (row_is (c.0 ∷ f.columns) (omega arith, f.rises)))
    ∙ sym (first_row c.1 (c.0 ∷ f.columns) f.others)
    ∙ ap tokens_of_rows (sym f.rows)

-- no live cells before tokens
pub onto_none : (tokens : List (ℕ × ℕ)) → onto_run 0 tokens ≡ tokens
onto_none [] = refl
onto_none ((n, tag) ∷ tokens) = by_tag (tag == 111)
  where
    by_tag : (b : Bool) → (if b then (0 + n, tag) ∷ tokens else (n, tag) ∷ tokens) ≡ (n, tag) ∷ tokens
    by_tag true = let same : 0 + n ≡ n = omega arith in ap (λ k. (k, tag) ∷ tokens) same
    by_tag false = refl
