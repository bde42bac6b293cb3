-- What the text of a set spells.
use Rattle.std.proofs.Common.{◌≡◌, ◌⊎◌, inl, inr, ℕ, zero, suc, ◌+◌, ◌-◌, ◌*◌, ◌/◌, ◌%◌, ◌<◌, ◌≤◌, pos, negsuc, ◌<ℤ◌, Bool, true, false, cond, ◌||◌, List, [], ◌∷◌, ◌++◌, map, None, Some, if◌then◌else◌, sym, refl, ap, subst, ◌∙◌, arith, append_assoc, append-nil, add-zero}
use Rattle.std.specs.Prelude.{nat_abs, ◌==◌, ◌↔◌}
use Rattle.std.specs.List.{list_any, range_with_len, join_with_byte, filter, AllByRecursion}
use Rattle.std.specs.Int.{bit_at}
use Rattle.std.specs.Option.{option_or}
use Rattle.std.specs.Cmp.{both_ways}
use Rattle.std.proofs.lemmas.Int.{ints}
use Rattle.std.proofs.lemmas.Bool.{or_cases, or_left, or_parts, or_right}
use Rattle.std.proofs.lemmas.Bool.Decides.{nat_tests}
use Rattle.std.proofs.lemmas.List.Folds.{list_any-append}
use Rattle.life_model.specs.Box.{extent, width, height}
use Rattle.life_model.specs.Cell.{Cell, same_cell}
use Rattle.life_model.specs.Generation.{Generation, contains, cells, empty, from_list}
use Rattle.life_model.specs.Symmetry.{normal}
use Rattle.life_model.proofs.Generations.{contains-from_list, same_members, cells-from_list}
use Rattle.life_model.proofs.Moves.{same_cell_itself}
use Rattle.life_cells.specs.Limits.{place_limit}
use Rattle.life_cells.specs.Readings.{cell_of_pair}
use Rattle.life_cells.specs.Wechsler.{digit, column_value, short_zeros, full_runs, zeros, columns_text, strip_text, strips_text, body}
use Rattle.life_cells.specs.declared.reader.CodeFault.TheVariants.{BadChar, CutRun}
use Rattle.life_cells.specs.CodeReading.{is_far, first_fault, refusal, Column, Zeros, NextStrip, Offence, digit_value, is_base_36_digit, mark_of_byte, mark_of_run, marks, marks_of, live_rows, column_cells, cells_spelled}
use Rattle.life_cells.specs.Drawing.{cells_from, fault_from}
use Rattle.life_cells.proofs.Members.{holds_in}
use Rattle.life_cells.proofs.Boxes.{IsInBox, normal_in_box, normal_normal}
use Rattle.life_cells.proofs.Drawings.{cells_after_is, first_fault_is, is_near_one, near_fault}
use Rattle.life_cells.proofs.Weights.{live_value, live_value-lt}

-- ---- digits

low_digit : (n : ℕ) → n < 10 → digit n ≡ 48 + n
low_digit n h = grind (arith, nat_tests)

high_digit : (n : ℕ) → 10 ≤ n → digit n ≡ 87 + n
high_digit n h = grind (arith, nat_tests)

is_digit-digit : (n : ℕ) → n < 36 → is_base_36_digit (digit n) ≡ true
is_digit-digit n h = grind (arith, nat_tests)

digit_value-digit : (n : ℕ) → n < 36 → digit_value (digit n) ≡ n
digit_value-digit n h = grind (arith, nat_tests)

column_digit : (n : ℕ) → n < 32 → ((digit n == 122) ≡ false) × (((digit n == 119) ≡ false) × (((digit n == 120) ≡ false) × ((digit n == 121) ≡ false)))
column_digit n h = (grind (arith, nat_tests), (grind (arith, nat_tests), (grind (arith, nat_tests), grind (arith, nat_tests))))

mark_of-digit : (at n : ℕ) → n < 32 → mark_of_byte at (digit n) ≡ Column at n
mark_of-digit at n h =
    let t = column_digit n h in
    (λ i. if is_digit-digit n (omega arith) i then (if t.0 i then NextStrip else (if t.1.0 i then Zeros 2 else (if t.1.1.0 i then Zeros 3 else Column at (digit_value (digit n))))) else Offence (BadChar at))
    ∙ ap (Column at) (digit_value-digit n (omega arith))

run_of-digit : (at n : ℕ) → n < 36 → mark_of_run at (digit n) ≡ Zeros (4 + n)
run_of-digit at n h =
    ap (λ b. if b then Zeros (4 + digit_value (digit n)) else Offence (CutRun at)) (is_digit-digit n h)
    ∙ ap (λ m. Zeros (4 + m)) (digit_value-digit n h)

-- ---- the cells of a text and of what follows it

-- what follows a text is read from column y on, and if these cells are near, no fault comes before it
pub record Leads (k x y at next : ℕ) (text : List ℕ) (cs : List (ℕ × ℕ)) (rest : List ℕ) : Type 0 where
  pub cells : cells_from k x (marks None at (text ++ rest)) ≡ cs ++ cells_from k y (marks None next rest)
  pub faults : list_any is_far cs ≡ false → fault_from k x (marks None at (text ++ rest)) ≡ fault_from k y (marks None next rest)

-- the text, read from column x of strip k on, spells these cells, and what follows is read from column y on
pub record Spells (k x y : ℕ) (text : List ℕ) (cs : List (ℕ × ℕ)) : Type 0 where
  pub goes : (at : ℕ) (rest : List ℕ) → (next : ℕ) × Leads k x y at next text cs rest

spells_nothing : (k x : ℕ) → Spells k x x [] []
spells_nothing k x = record { goes = λ at rest. (at, record { cells = refl; faults = λ _. refl }) }

spells_more : (k x y z : ℕ) (a b : List ℕ) (cs ds : List (ℕ × ℕ)) → Spells k x y a cs → Spells k y z b ds → Spells k x z (a ++ b) (cs ++ ds)
spells_more k x y z a b cs ds s t = record {
  goes = λ at rest.
      let first = s.goes at (b ++ rest) in
      let second = t.goes first.0 rest in (
        second.0,
        record {
          cells = ap (λ text. cells_from k x (marks None at text)) (append_assoc a b rest) ∙ first.1.cells ∙ ap (λ ms. cs ++ ms) second.1.cells ∙ sym (append_assoc cs ds (cells_from k z (marks None second.0 rest)));
          faults = λ near.
              let parts = sym (list_any-append is_far cs ds) ∙ near in
              ap (λ text. fault_from k x (marks None at text)) (append_assoc a b rest) ∙ first.1.faults (or_parts _ _ parts).0 ∙ second.1.faults (or_parts (list_any is_far cs) _ parts).1;
        },
      );
}

spells_same : (k x y y' : ℕ) (text : List ℕ) (cs : List (ℕ × ℕ)) → y ≡ y' → Spells k x y text cs → Spells k x y' text cs
spells_same k x y y' text cs e s = subst (λ z. Spells k x z text cs) e s

spells_full : (k x : ℕ) → Spells k x (x + 39) (121 ∷ 122 ∷ []) []
spells_full k x = record { goes = λ at rest. (at + 1 + 1, record { cells = refl; faults = λ _. refl }) }

spells_runs : (m k x : ℕ) → Spells k x (x + 39 * m) (full_runs m) []
spells_runs zero k x = spells_same k x x (x + 39 * 0) [] [] (omega arith) (spells_nothing k x)
spells_runs (suc m) k x =
    spells_same k x (x + 39 + 39 * m) (x + 39 * suc m) (full_runs (suc m)) [] (omega arith)
    (spells_more k x (x + 39) (x + 39 + 39 * m) (121 ∷ 122 ∷ []) (full_runs m) [] [] (spells_full k x) (spells_runs m k (x + 39)))

spells_run : (k x n : ℕ) → n < 36 → Spells k x (x + (4 + n)) (121 ∷ digit n ∷ []) []
spells_run k x n h = record {
  goes = λ at rest. (
    at + 1 + 1,
    record {
      cells = ap (λ m. cells_from k x (m ∷ marks None (at + 1 + 1) rest)) (run_of-digit at n h);
      faults = λ _. ap (λ m. fault_from k x (m ∷ marks None (at + 1 + 1) rest)) (run_of-digit at n h);
    },
  );
}

spells_short : (k x n : ℕ) → n < 39 → Spells k x (x + n) (short_zeros n) []
spells_short k x zero h = spells_same k x x (x + 0) [] [] (omega arith) (spells_nothing k x)
spells_short k x (suc zero) h = record { goes = λ at rest. (at + 1, record { cells = refl; faults = λ _. refl }) }
spells_short k x (suc (suc zero)) h = record { goes = λ at rest. (at + 1, record { cells = refl; faults = λ _. refl }) }
spells_short k x (suc (suc (suc zero))) h = record { goes = λ at rest. (at + 1, record { cells = refl; faults = λ _. refl }) }
spells_short k x (suc (suc (suc (suc n)))) h =
    spells_same k x (x + (4 + n)) (x + suc (suc (suc (suc n)))) (short_zeros (suc (suc (suc (suc n))))) [] (omega arith) (spells_run k x n (omega arith))

spells_zeros : (k x n : ℕ) → Spells k x (x + n) (zeros n) []
spells_zeros k x n =
    spells_same k x (x + 39 * (n / 39) + n % 39) (x + n) (zeros n) [] (omega arith)
    (spells_more k x (x + 39 * (n / 39)) (x + 39 * (n / 39) + n % 39) (full_runs (n / 39)) (short_zeros (n % 39)) [] [] (spells_runs (n / 39) k x) (spells_short k (x + 39 * (n / 39)) (n % 39) (omega arith)))

spells_column : (k x v : ℕ) → v < 32 → Spells k x (x + 1) (digit v ∷ []) (column_cells k x v)
spells_column k x v h = record {
  goes = λ at rest.
      let mark =
      ap (λ b. if b then marks (Some at) (at + 1) rest else mark_of_byte at (digit v) ∷ marks None (at + 1) rest) (column_digit v h).1.1.1
      ∙ ap (λ m. m ∷ marks None (at + 1) rest) (mark_of-digit at v h) in (
        at + 1,
        record {
          cells = ap (cells_from k x) mark;
          faults = λ near.
              ap (fault_from k x) mark ∙ ap (λ f. option_or f (fault_from k (x + 1) (marks None (at + 1) rest))) (near_fault at k x v near);
        },
      );
}

-- ---- columns and strips

abbrev columns_cells : ℕ → ℕ → List ℕ → List (ℕ × ℕ)
columns_cells k x [] = []
columns_cells k x (v ∷ vs) = column_cells k x v ++ columns_cells k (x + 1) vs

-- the column that is read next after columns of these values, s of them skipped
abbrev last_column : ℕ → ℕ → List ℕ → ℕ
last_column x s [] = x
last_column x s (zero ∷ vs) = last_column x (s + 1) vs
last_column x s (suc v ∷ vs) = last_column (x + s + 1) 0 vs

spells_columns : (k x s : ℕ) (vs : List ℕ) → AllByRecursion (λ v. v < 32) vs → Spells k x (last_column x s vs) (columns_text s vs) (columns_cells k (x + s) vs)
spells_columns k x s [] all = spells_nothing k x
spells_columns k x s (zero ∷ vs) all =
    subst (λ y. Spells k x (last_column x (s + 1) vs) (columns_text (s + 1) vs) (columns_cells k y vs)) (let e : x + (s + 1) ≡ x + s + 1 = omega arith in e) (spells_columns k x (s + 1) vs all.1)
spells_columns k x s (suc v ∷ vs) all =
    spells_more k x (x + s) (last_column (x + s + 1) 0 vs) (zeros s) (digit (suc v) ∷ columns_text 0 vs) [] (column_cells k (x + s) (suc v) ++ columns_cells k (x + s + 1) vs) (spells_zeros k x s)
    (spells_more k (x + s) (x + s + 1) (last_column (x + s + 1) 0 vs) (digit (suc v) ∷ []) (columns_text 0 vs) (column_cells k (x + s) (suc v)) (columns_cells k (x + s + 1) vs) (spells_column k (x + s) (suc v) all.0)
    (subst (λ y. Spells k (x + s + 1) (last_column (x + s + 1) 0 vs) (columns_text 0 vs) (columns_cells k y vs)) (add-zero (x + s + 1)) (spells_columns k (x + s + 1) 0 vs all.1)))

module _ (values : ℕ → List ℕ) (small : (k : ℕ) → AllByRecursion (λ v. v < 32) (values k)) where
  abbrev pub strips_cells : ℕ → ℕ → List (ℕ × ℕ)
  strips_cells k zero = []
  strips_cells k (suc n) = columns_cells k 0 (values k) ++ strips_cells (k + 1) n

  strip : (k : ℕ) → Spells k 0 (last_column 0 0 (values k)) (columns_text 0 (values k)) (columns_cells k 0 (values k))
  strip k = spells_columns k 0 0 (values k) (small k)

  pub spelt_strips : (n k at : ℕ) → cells_from k 0 (marks None at (join_with_byte 122 (map (λ i. columns_text 0 (values i)) (range_with_len k (suc n))))) ≡ strips_cells k (suc n)
  spelt_strips zero k at =
      let s = (strip k).goes at [] in
      ap (λ text. cells_from k 0 (marks None at text)) (sym (append-nil (columns_text 0 (values k)))) ∙ s.1.cells
  spelt_strips (suc n) k at =
      let s = (strip k).goes at (122 ∷ join_with_byte 122 (map (λ i. columns_text 0 (values i)) (range_with_len (k + 1) (suc n)))) in
      s.1.cells ∙ ap (λ cs. columns_cells k 0 (values k) ++ cs) (spelt_strips n (k + 1) (s.0 + 1))

  pub lawful_strips : (n k at : ℕ) → list_any is_far (strips_cells k (suc n)) ≡ false → fault_from k 0 (marks None at (join_with_byte 122 (map (λ i. columns_text 0 (values i)) (range_with_len k (suc n))))) ≡ None
  lawful_strips zero k at near =
      let s = (strip k).goes at [] in
      let parts = sym (list_any-append is_far (columns_cells k 0 (values k)) []) ∙ near in
      ap (λ text. fault_from k 0 (marks None at text)) (sym (append-nil (columns_text 0 (values k)))) ∙ s.1.faults (or_parts _ _ parts).0
  lawful_strips (suc n) k at near =
      let s = (strip k).goes at (122 ∷ join_with_byte 122 (map (λ i. columns_text 0 (values i)) (range_with_len (k + 1) (suc n)))) in
      let parts = sym (list_any-append is_far (columns_cells k 0 (values k)) (strips_cells (k + 1) (suc n))) ∙ near in
      s.1.faults (or_parts _ _ parts).0 ∙ lawful_strips n (k + 1) (s.0 + 1) (or_parts (list_any is_far (columns_cells k 0 (values k))) _ parts).1

-- ---- the bits of a column

bit_of_five : (a b c d e v : ℕ) → a < 2 → b < 2 → c < 2 → d < 2 → e < 2 → v ≡ a + 2 * b + 4 * c + 8 * d + 16 * e → (v / 1 % 2 ≡ a) × ((v / 2 % 2 ≡ b) × ((v / 4 % 2 ≡ c) × ((v / 8 % 2 ≡ d) × (v / 16 % 2 ≡ e))))
bit_of_five a b c d e v ha hb hc hd he h = (omega arith, (omega arith, (omega arith, (omega arith, omega arith))))

abbrev bit : Bool → ℕ
bit b = if b then 1 else 0

bit-lt : (b : Bool) → bit b < 2
bit-lt true = omega arith
bit-lt false = omega arith

bit_weighs : (b : Bool) (w : ℕ) → (if b then w else 0) ≡ w * bit b
bit_weighs true w = omega arith
bit_weighs false w = omega arith

bit_is : (b : Bool) → (bit b == 1) ≡ b
bit_is true = refl
bit_is false = refl

module _ (live : ℕ → Bool) where
  value_by_bits : live_value live ≡ bit (live 0) + 2 * bit (live 1) + 4 * bit (live 2) + 8 * bit (live 3) + 16 * bit (live 4)
  value_by_bits =
      let a = bit_weighs (live 0) 1 in
      let b = bit_weighs (live 1) 2 in
      let c = bit_weighs (live 2) 4 in
      let d = bit_weighs (live 3) 8 in
      let e = bit_weighs (live 4) 16 in
      omega arith

  live_bits : live_rows (live_value live) ≡ filter live (range_with_len 0 5)
  live_bits =
      let h = bit_of_five (bit (live 0)) (bit (live 1)) (bit (live 2)) (bit (live 3)) (bit (live 4)) (live_value live) (bit-lt (live 0)) (bit-lt (live 1)) (bit-lt (live 2)) (bit-lt (live 3)) (bit-lt (live 4)) value_by_bits in
      let a : (bit_at (live_value live) 0 == 1) ≡ live 0 = ap (λ n. n == 1) h.0 ∙ bit_is (live 0) in
      let b : (bit_at (live_value live) 1 == 1) ≡ live 1 = ap (λ n. n == 1) h.1.0 ∙ bit_is (live 1) in
      let c : (bit_at (live_value live) 2 == 1) ≡ live 2 = ap (λ n. n == 1) h.1.1.0 ∙ bit_is (live 2) in
      let d : (bit_at (live_value live) 3 == 1) ≡ live 3 = ap (λ n. n == 1) h.1.1.1.0 ∙ bit_is (live 3) in
      let e : (bit_at (live_value live) 4 == 1) ≡ live 4 = ap (λ n. n == 1) h.1.1.1.1 ∙ bit_is (live 4) in
      λ i. choose (a i) 0 (choose (b i) 1 (choose (c i) 2 (choose (d i) 3 (choose (e i) 4 []))))
    where
      choose : Bool → ℕ → List ℕ → List ℕ
      choose t x xs = cond t (x ∷ xs) xs

-- ---- the cells of a set's text

cases_le : (a b : ℕ) → a ≤ b → (a ≡ b) ⊎ (a + 1 ≤ b)
cases_le a b h = grind arith

abbrev live_at : Generation → ℕ → ℕ → ℕ → Bool
live_at N k x j = contains N (pos x, pos (5 * k + j))

column_cells_is : (N : Generation) (k x : ℕ) → column_cells k x (column_value N k x) ≡ map {B = ℕ × ℕ} (λ j. (x, 5 * k + j)) (filter (live_at N k x) (range_with_len 0 5))
column_cells_is N k x = ap (λ rows. map {B = ℕ × ℕ} (λ j. (x, 5 * k + j)) rows) (live_bits (live_at N k x))

abbrev values_of : Generation → ℕ → ℕ → List ℕ
values_of N wide k = map (column_value N k) (range_with_len 0 wide)

small_values : (N : Generation) (k x n : ℕ) → AllByRecursion (λ v. v < 32) (map (column_value N k) (range_with_len x n))
small_values N k x zero = tt
small_values N k x (suc n) = (live_value-lt (live_at N k x), small_values N k (x + 1) n)

-- each spelt cell is one of the set
abbrev IsLive : Generation → ℕ × ℕ → Type 0
IsLive N d = contains N (cell_of_pair d) ≡ true

all_both : (P : ℕ × ℕ → Type 0) (ds es : List (ℕ × ℕ)) → AllByRecursion P ds → AllByRecursion P es → AllByRecursion P (ds ++ es)
all_both P [] es h k = k
all_both P (d ∷ ds) es h k = (h.0, all_both P ds es h.1 k)

kept_live : (N : Generation) (k x : ℕ) (rows : List ℕ) → AllByRecursion (IsLive N) (map {B = ℕ × ℕ} (λ j. (x, 5 * k + j)) (filter (live_at N k x) rows))
kept_live N k x [] = tt
kept_live N k x (j ∷ rows) =
    elim (live_at N k x j) as (λ b. live_at N k x j ≡ b → AllByRecursion (IsLive N) (map {B = ℕ × ℕ} (λ i. (x, 5 * k + i)) (cond b (j ∷ filter (live_at N k x) rows) (filter (live_at N k x) rows)))) [
      | true ↦ λ e. (e, kept_live N k x rows)
      | false ↦ λ e. kept_live N k x rows
    ] refl

columns_live : (N : Generation) (k x n : ℕ) → AllByRecursion (IsLive N) (columns_cells k x (map (column_value N k) (range_with_len x n)))
columns_live N k x zero = tt
columns_live N k x (suc n) =
    all_both (IsLive N) (column_cells k x (column_value N k x)) _ (subst (AllByRecursion (IsLive N)) (sym (column_cells_is N k x)) (kept_live N k x (range_with_len 0 5))) (columns_live N k (x + 1) n)

strips_live : (N : Generation) (wide k n : ℕ) → AllByRecursion (IsLive N) (strips_cells (values_of N wide) (λ i. small_values N i 0 wide) k n)
strips_live N wide k zero = tt
strips_live N wide k (suc n) = all_both (IsLive N) (columns_cells k 0 (values_of N wide k)) _ (columns_live N k 0 wide) (strips_live N wide (k + 1) n)

-- each cell of the set is spelt
abbrev has : ℕ × ℕ → List (ℕ × ℕ) → Type 0
has d cs = list_any (λ e. same_cell (cell_of_pair d) (cell_of_pair e)) cs ≡ true

has_left : (d : ℕ × ℕ) (ds es : List (ℕ × ℕ)) → has d ds → has d (ds ++ es)
has_left d ds es h = list_any-append _ ds es ∙ or_left _ _ h

has_right : (d : ℕ × ℕ) (ds es : List (ℕ × ℕ)) → has d es → has d (ds ++ es)
has_right d ds es h = list_any-append _ ds es ∙ or_right _ _ h

row_kept : (N : Generation) (k x j a n : ℕ) → live_at N k x j ≡ true → a ≤ j → j < a + n → has (x, 5 * k + j) (map {B = ℕ × ℕ} (λ i. (x, 5 * k + i)) (filter (live_at N k x) (range_with_len a n)))
row_kept N k x j a zero e h l = absurd (omega arith)
row_kept N k x j a (suc n) e h l =
    elim (cases_le a j h) [
      | inl same ↦
          subst (λ b. has (x, 5 * k + j) (map {B = ℕ × ℕ} (λ i. (x, 5 * k + i)) (cond b (a ∷ filter (live_at N k x) (range_with_len (a + 1) n)) (filter (live_at N k x) (range_with_len (a + 1) n)))))
          (sym (ap (live_at N k x) same ∙ e))
          (or_left _ _ (ap (λ i. same_cell (cell_of_pair (x, 5 * k + j)) (cell_of_pair (x, 5 * k + i))) same ∙ same_cell_itself (cell_of_pair (x, 5 * k + j))))
      | inr behind ↦
          elim (live_at N k x a) as (λ b. has (x, 5 * k + j) (map {B = ℕ × ℕ} (λ i. (x, 5 * k + i)) (cond b (a ∷ filter (live_at N k x) (range_with_len (a + 1) n)) (filter (live_at N k x) (range_with_len (a + 1) n))))) [
            | true ↦ or_right _ _ (row_kept N k x j (a + 1) n e behind (omega arith))
            | false ↦ row_kept N k x j (a + 1) n e behind (omega arith)
          ]
    ]

columns_has : (N : Generation) (k x j p n : ℕ) → j < 5 → live_at N k x j ≡ true → p ≤ x → x < p + n → has (x, 5 * k + j) (columns_cells k p (map (column_value N k) (range_with_len p n)))
columns_has N k x j p zero l e h m = absurd (omega arith)
columns_has N k x j p (suc n) l e h m =
    elim (cases_le p x h) [
      | inl same ↦ has_left _ (column_cells k p (column_value N k p)) _
          (subst (λ q. has (x, 5 * k + j) (column_cells k q (column_value N k q))) (sym same)
          (subst (has (x, 5 * k + j)) (sym (column_cells_is N k x)) (row_kept N k x j 0 5 e (omega arith) (omega arith))))
      | inr behind ↦ has_right _ (column_cells k p (column_value N k p)) _ (columns_has N k x j (p + 1) n l e behind (omega arith))
    ]

strips_has : (N : Generation) (wide x k j s n : ℕ) → j < 5 → x < wide → live_at N k x j ≡ true → s ≤ k → k < s + n → has (x, 5 * k + j) (strips_cells (values_of N wide) (λ i. small_values N i 0 wide) s n)
strips_has N wide x k j s zero l w e h m = absurd (omega arith)
strips_has N wide x k j s (suc n) l w e h m =
    elim (cases_le s k h) [
      | inl same ↦ has_left _ (columns_cells s 0 (values_of N wide s)) _
          (subst (λ q. has (x, 5 * k + j) (columns_cells q 0 (values_of N wide q))) (sym same) (columns_has N k x j 0 wide l e (omega arith) (omega arith)))
      | inr behind ↦ has_right _ (columns_cells s 0 (values_of N wide s)) _ (strips_has N wide x k j (s + 1) n l w e behind (omega arith))
    ]

-- ---- the whole text

strips_count : (y high : ℕ) → y < high → (k : ℕ) × ((high + 4) / 5 ≡ suc k)
strips_count y high h = ((high + 4) / 5 - 1, omega arith)

no_strips : (text : ℕ → List ℕ) (n : ℕ) → n ≡ 0 → strips_text text n ≡ 48 ∷ []
no_strips text n e = ap (strips_text text) e

module _ (G : Generation) where
  abbrev all_cells : List (ℕ × ℕ)
  all_cells = strips_cells (values_of (normal G) (width G)) (λ i. small_values (normal G) i 0 (width G)) 0 ((height G + 4) / 5)

  -- the text spells the cells of the strips
  cells_of_text : (n : ℕ) → cells_from 0 0 (marks_of (strips_text (strip_text (normal G) (width G)) n)) ≡ strips_cells (values_of (normal G) (width G)) (λ i. small_values (normal G) i 0 (width G)) 0 n
  cells_of_text zero = refl
  cells_of_text (suc n) = spelt_strips (values_of (normal G) (width G)) (λ i. small_values (normal G) i 0 (width G)) n 0 0

  all_placed : (ds : List (ℕ × ℕ)) → AllByRecursion (IsLive (normal G)) ds → AllByRecursion (λ c. contains (normal G) c ≡ true) (map cell_of_pair ds)
  all_placed [] h = tt
  all_placed (d ∷ ds) h = (h.0, all_placed ds h.1)

  any_placed : (d : ℕ × ℕ) (ds : List (ℕ × ℕ)) → has d ds → list_any (same_cell (cell_of_pair d)) (map cell_of_pair ds) ≡ true
  any_placed d [] h = h
  any_placed d (e ∷ ds) h = elim (or_cases (same_cell (cell_of_pair d) (cell_of_pair e)) _ h) [
    | inl here ↦ or_left _ _ here
    | inr there ↦ or_right _ _ (any_placed d ds there)
  ]

  one_spelt : (c : Cell) → contains (normal G) c ≡ true → IsInBox G c → list_any (same_cell c) (map cell_of_pair all_cells) ≡ true
  one_spelt (pos x, pos y) h b =
      let k = y / 5 in
      let j = y % 5 in
      let at : y ≡ 5 * k + j = omega arith in
      subst (λ (r : ℕ). list_any (same_cell (pos x, pos r)) (map cell_of_pair all_cells) ≡ true) (sym at)
      (any_placed (x, 5 * k + j) all_cells
      (strips_has (normal G) (width G) x k j 0 ((height G + 4) / 5) (omega arith) (inside x (width G) b.right)
      (ap (λ (r : ℕ). contains (normal G) (pos x, pos r)) (sym at) ∙ h) (omega arith) (strip_within y (height G) (inside y (height G) b.below))))
    where
      inside : (x n : ℕ) → pos x <ℤ pos n → x < n
      inside x n h = omega (arith, ints)

      strip_within : (y high : ℕ) → y < high → y / 5 < 0 + (high + 4) / 5
      strip_within y high h = omega arith
  one_spelt (pos x, negsuc y) h b = absurd (let a = b.above in omega (arith, ints))
  one_spelt (negsuc x, y) h b = absurd (let a = b.left in omega (arith, ints))

  pub spelt-body : cells_spelled (body G) ≡ normal G
  unfolding cells_spelled body
  spelt-body =
      ap (λ ds. from_list (map cell_of_pair ds)) (cells_after_is (marks_of (body G)) [] ∙ cells_of_text ((height G + 4) / 5))
      ∙ same_members _ _ (λ c. contains-from_list (map cell_of_pair all_cells) c ∙ both_ways _ _
      (holds_in (λ d. contains (normal G) d ≡ true) (map cell_of_pair all_cells) (all_placed all_cells (strips_live (normal G) (width G) 0 ((height G + 4) / 5))) c)
      (λ h. one_spelt c h (normal_in_box G c h)))

unfoldable body_by : Generation → List ℕ
body_by N = strips_text (strip_text N (extent (map (λ c. nat_abs c.0) (cells N)))) ((extent (map (λ c. nat_abs c.1) (cells N)) + 4) / 5)

-- the text is that of the normal form
body_of_normal : (G : Generation) → body G ≡ body_by (normal G)
unfolding body width height body_by
body_of_normal G = refl

pub same_bodies : (G H : Generation) → (body G ≡ body H) ↔ (normal G ≡ normal H)
same_bodies G H = (
  λ e. sym (spelt-body G) ∙ ap cells_spelled e ∙ spelt-body H,
  λ e. body_of_normal G ∙ ap body_by e ∙ sym (body_of_normal H),
)

-- ---- the text of a set within the limit of places

inside : (x n m : ℕ) → pos x <ℤ pos n → n ≤ m → x < m
inside x n m h k = omega (arith, ints)

all_near : (G : Generation) → width G ≤ place_limit → height G ≤ place_limit → (ds : List (ℕ × ℕ)) → AllByRecursion (IsLive (normal G)) ds → list_any is_far ds ≡ false
all_near G wide high [] all = refl
all_near G wide high ((x, y) ∷ ds) all =
    let b = normal_in_box G (pos x, pos y) all.0 in
    λ i. is_near_one x y (inside x (width G) place_limit b.right wide) (inside y (height G) place_limit b.below high) i || all_near G wide high ds all.1 i

no_fault : (G : Generation) (n : ℕ) → list_any is_far (strips_cells (values_of (normal G) (width G)) (λ i. small_values (normal G) i 0 (width G)) 0 n) ≡ false → fault_from 0 0 (marks_of (strips_text (strip_text (normal G) (width G)) n)) ≡ None
no_fault G zero near = refl
no_fault G (suc n) near = lawful_strips (values_of (normal G) (width G)) (λ i. small_values (normal G) i 0 (width G)) n 0 0 near

spelt-nothing : cells_spelled [] ≡ empty
unfolding cells_spelled
spelt-nothing = refl

refusal_some : (text : List ℕ) → (text ≡ [] → ⊥) → refusal text ≡ first_fault [] (marks_of text)
unfolding refusal
refusal_some [] h = absurd (h refl)
refusal_some (c ∷ text) h = refl

body_by_empty : body_by empty ≡ 48 ∷ []
unfolding body_by
body_by_empty =
    ap (λ cs. strips_text (strip_text empty (extent (map (λ c. nat_abs c.0) cs))) ((extent (map (λ c. nat_abs c.1) cs) + 4) / 5)) (cells-from_list [] tt)

fault_of_body : (G : Generation) → fault_from 0 0 (marks_of (body G)) ≡ fault_from 0 0 (marks_of (strips_text (strip_text (normal G) (width G)) ((height G + 4) / 5)))
unfolding body
fault_of_body G = refl

no_byte : ◌≡◌ {A = List ℕ} [] (48 ∷ []) → ⊥
no_byte e = cc

-- some byte is written, whatever the set
body_some : (G : Generation) → body G ≡ [] → ⊥
body_some G e =
    let none : normal G ≡ empty = sym (spelt-body G) ∙ ap cells_spelled e ∙ spelt-nothing in
    no_byte (sym e ∙ body_of_normal G ∙ ap body_by none ∙ body_by_empty)

pub lawful-body : (G : Generation) → width G ≤ place_limit → height G ≤ place_limit → refusal (body G) ≡ None
lawful-body G wide high =
    refusal_some (body G) (body_some G) ∙ first_fault_is (marks_of (body G)) []
    ∙ fault_of_body G ∙ no_fault G ((height G + 4) / 5) (all_near G wide high (all_cells G) (strips_live (normal G) (width G) 0 ((height G + 4) / 5)))

pub normal-spelt-body : (G : Generation) → normal (cells_spelled (body G)) ≡ normal G
normal-spelt-body G = ap normal (spelt-body G) ∙ normal_normal G
