-- The cells of marks, by strip and column.
use Rattle.std.proofs.Common.{◌≡◌, ◌≢◌, ◌⊎◌, ℕ, suc, ◌+◌, ◌-◌, ◌*◌, ◌/◌, ◌%◌, ◌^◌, ◌<◌, ◌≤◌, min, Bool, true, false, cond, ◌||◌, List, [], ◌∷◌, ◌++◌, map, Option, Some, None, Result, Ok, Err, if◌then◌else◌, sym, refl, ap, ◌∙◌, arith, add-zero, append_assoc}
use Rattle.std.specs.Prelude.{nat_le, ◌==◌}
use Rattle.std.specs.List.{after_last, list_any, sum_by, filter, range_with_len}
use Rattle.std.specs.Option.{option_or}
use Rattle.std.specs.Int.{bit_at}
use Rattle.std.proofs.lemmas.Bool.{or_parts}
use Rattle.std.proofs.lemmas.Bool.Decides.{nat_tests}
use Rattle.std.proofs.lemmas.List.{map-append}
use Rattle.std.proofs.lemmas.List.Sums.{sum_by-append}
use Rattle.life_model.specs.Cell.{Cell}
use Rattle.life_cells.specs.Limits.{place_limit}
use Rattle.life_cells.specs.declared.reader.CodeFault.{CodeFault}
use Rattle.life_cells.specs.declared.reader.CodeFault.TheVariants.{TooFar}
use Rattle.life_cells.specs.CodeReading.{Mark, Column, Zeros, NextStrip, Offence, is_next_strip, columns_in, strip_number, column, mark_cells, mark_fault, column_cells, live_rows, is_far, cells_after, first_fault, marks_of}
use Rattle.life_cells.specs.Drawing.{strip_behind, column_behind, cells_from, fault_from, cells_unless, cells_drawn, rows_left, cells_left, marks_at}
use Rattle.life_cells.specs.Readings.{cell_of_pair, with_prefix}
use Rattle.life_cells.proofs.Readings.{after_last-hit, after_last-miss, with_prefix-twice}

-- ---- sums over the marks before, step by step

strip-push : (before : List Mark) (m : Mark) → strip_number (before ++ m ∷ []) ≡ strip_behind (strip_number before) m
strip-push before (Column at v) = sum_by-append _ before (Column at v ∷ []) ∙ add-zero (strip_number before)
strip-push before (Zeros n) = sum_by-append _ before (Zeros n ∷ []) ∙ add-zero (strip_number before)
strip-push before NextStrip = sum_by-append _ before (NextStrip ∷ [])
strip-push before (Offence fault) = sum_by-append _ before (Offence fault ∷ []) ∙ add-zero (strip_number before)

column-miss : (before : List Mark) (m : Mark) → is_next_strip m ≡ false → column (before ++ m ∷ []) ≡ column before + columns_in m
column-miss before m h =
    let one : 0 + columns_in m ≡ columns_in m = omega arith in
    ap (sum_by columns_in) (after_last-miss is_next_strip before m h) ∙ sum_by-append columns_in (after_last is_next_strip before) (m ∷ []) ∙ ap (λ n. column before + n) one

column-push : (before : List Mark) (m : Mark) → column (before ++ m ∷ []) ≡ column_behind (column before) m
column-push before (Column at v) = column-miss before (Column at v) refl
column-push before (Zeros n) = column-miss before (Zeros n) refl
column-push before NextStrip = ap (sum_by columns_in) (after_last-hit is_next_strip before NextStrip refl)
column-push before (Offence fault) = column-miss before (Offence fault) refl ∙ add-zero (column before)

pub cells_after_is : (ms before : List Mark) → cells_after before ms ≡ cells_from (strip_number before) (column before) ms
cells_after_is [] before = refl
cells_after_is (m ∷ ms) before =
    ap (λ cs. mark_cells (strip_number before) (column before) m ++ cs)
    (cells_after_is ms (before ++ m ∷ []) ∙ (λ i. cells_from (strip-push before m i) (column-push before m i) ms))

pub first_fault_is : (ms before : List Mark) → first_fault before ms ≡ fault_from (strip_number before) (column before) ms
first_fault_is [] before = refl
first_fault_is (m ∷ ms) before =
    ap (option_or (mark_fault (strip_number before) (column before) m))
    (first_fault_is ms (before ++ m ∷ []) ∙ (λ i. fault_from (strip-push before m i) (column-push before m i) ms))

-- ---- one mark

unless_front : (fault : Option CodeFault) (front cells : List (ℕ × ℕ)) → cells_unless fault (front ++ cells) ≡ with_prefix (map cell_of_pair front) (cells_unless fault cells)
unless_front None front cells = ap Ok (map-append cell_of_pair front cells)
unless_front (Some fault) front cells = refl

pub drawn_step : (k x : ℕ) (m : Mark) (ms : List Mark) → mark_fault k x m ≡ None → cells_drawn k x (m ∷ ms) ≡ with_prefix (map cell_of_pair (mark_cells k x m)) (cells_drawn (strip_behind k m) (column_behind x m) ms)
drawn_step k x m ms h =
    ap (λ f. cells_unless (option_or f (fault_from (strip_behind k m) (column_behind x m) ms)) (mark_cells k x m ++ cells_from (strip_behind k m) (column_behind x m) ms)) h
    ∙ unless_front (fault_from (strip_behind k m) (column_behind x m) ms) (mark_cells k x m) (cells_from (strip_behind k m) (column_behind x m) ms)

pub drawn_stop : (k x : ℕ) (m : Mark) (ms : List Mark) (fault : CodeFault) → mark_fault k x m ≡ Some fault → cells_drawn k x (m ∷ ms) ≡ Err fault
drawn_stop k x m ms fault h =
    ap (λ f. cells_unless (option_or f (fault_from (strip_behind k m) (column_behind x m) ms)) (mark_cells k x m ++ cells_from (strip_behind k m) (column_behind x m) ms)) h

pub near_fault : (at k x v : ℕ) → list_any is_far (column_cells k x v) ≡ false → mark_fault k x (Column at v) ≡ None
near_fault at k x v h = ap (λ b. if b then Some (TooFar at) else None) h

pub far_fault : (at k x v : ℕ) → list_any is_far (column_cells k x v) ≡ true → mark_fault k x (Column at v) ≡ Some (TooFar at)
far_fault at k x v h = ap (λ b. if b then Some (TooFar at) else None) h

-- ---- strip and column may be kept capped

-- they are equal, or both beyond the limit
pub record AreNear (a b : ℕ) : Type 0 where
  pub same : min a place_limit ≡ min b place_limit

pub far_column : (x y : ℕ) → AreNear x y → nat_le place_limit x ≡ nat_le place_limit y
far_column x y h = grind (arith, nat_tests)

pub far_row : (k l j : ℕ) → AreNear k l → nat_le place_limit (5 * k + j) ≡ nat_le place_limit (5 * l + j)
far_row k l j h = grind (arith, nat_tests)

module _ (k l x y : ℕ) (strips : AreNear k l) (columns : AreNear x y) where
  same_far : (rows : List ℕ) → list_any is_far (map {B = ℕ × ℕ} (λ j. (x, 5 * k + j)) rows) ≡ list_any is_far (map {B = ℕ × ℕ} (λ j. (y, 5 * l + j)) rows)
  same_far [] = refl
  same_far (j ∷ rows) = λ i. (far_column x y columns i || far_row k l j strips i) || same_far rows i

  near_column : (j : ℕ) → (nat_le place_limit x || nat_le place_limit (5 * k + j)) ≡ false → (x ≡ y) × (k ≡ l)
  near_column j h = (grind (arith, nat_tests), grind (arith, nat_tests))

  same_column : (rows : List ℕ) → list_any is_far (map {B = ℕ × ℕ} (λ j. (x, 5 * k + j)) rows) ≡ false → map {B = ℕ × ℕ} (λ j. (x, 5 * k + j)) rows ≡ map (λ j. (y, 5 * l + j)) rows
  same_column [] h = refl
  same_column (j ∷ rows) h =
      let e = near_column j (or_parts _ _ h).0 in
      λ i. map {B = ℕ × ℕ} (λ r. (e.0 i, 5 * e.1 i + r)) (j ∷ rows)

pub near_more : (x y n : ℕ) → AreNear x y → AreNear (x + n) (y + n)
near_more x y n h = record { same = omega arith }

pub near_itself : (x : ℕ) → AreNear x x
near_itself x = record { same = refl }

pub near_capped : (x : ℕ) → AreNear x (min x place_limit)
near_capped x = record { same = omega arith }

pub drawn_near : (ms : List Mark) (k l x y : ℕ) → AreNear k l → AreNear x y → cells_drawn k x ms ≡ cells_drawn l y ms
drawn_near [] k l x y h g = refl
drawn_near (Column at v ∷ ms) k l x y h g =
    elim (list_any is_far (column_cells k x v)) as (λ b. list_any is_far (column_cells k x v) ≡ b → cells_drawn k x (Column at v ∷ ms) ≡ cells_drawn l y (Column at v ∷ ms)) [
      | true ↦ λ e. drawn_stop k x (Column at v) ms (TooFar at) (far_fault at k x v e) ∙ sym (drawn_stop l y (Column at v) ms (TooFar at) (far_fault at l y v (sym (same_far k l x y h g (live_rows v)) ∙ e)))
      | false ↦ λ e.
          drawn_step k x (Column at v) ms (near_fault at k x v e)
          ∙ (λ i. with_prefix (map cell_of_pair (same_column k l x y h g (live_rows v) e i)) (drawn_near ms k l (x + 1) (y + 1) h (near_more x y 1 g) i))
          ∙ sym (drawn_step l y (Column at v) ms (near_fault at l y v (sym (same_far k l x y h g (live_rows v)) ∙ e)))
    ] refl
drawn_near (Zeros n ∷ ms) k l x y h g = drawn_near ms k l (x + n) (y + n) h (near_more x y n g)
drawn_near (NextStrip ∷ ms) k l x y h g = drawn_near ms (k + 1) (l + 1) 0 0 (near_more k l 1 h) (near_itself 0)
drawn_near (Offence fault ∷ ms) k l x y h g = refl

-- ---- the rows of a column, from one row on

one_more : (j : ℕ) → j < 5 → 5 - j ≡ suc (5 - (j + 1))
one_more j h = omega arith

rows_more : (v j : ℕ) (b : Bool) → j < 5 → (bit_at v j == 1) ≡ b → rows_left v j ≡ cond b (j ∷ rows_left v (j + 1)) (rows_left v (j + 1))
rows_more v j b h e =
    ap (λ n. filter (λ i. bit_at v i == 1) (range_with_len j n)) (one_more j h)
    ∙ ap (λ t. cond t (j ∷ rows_left v (j + 1)) (rows_left v (j + 1))) e

pub cells_left-live : (k x v j : ℕ) → j < 5 → (bit_at v j == 1) ≡ true → cells_left k x v j ≡ (x, 5 * k + j) ∷ cells_left k x v (j + 1)
cells_left-live k x v j h e = ap (λ rows. map {B = ℕ × ℕ} (λ i. (x, 5 * k + i)) rows) (rows_more v j true h e)

pub cells_left-dead : (k x v j : ℕ) → j < 5 → (bit_at v j == 1) ≡ false → cells_left k x v j ≡ cells_left k x v (j + 1)
cells_left-dead k x v j h e = ap (λ rows. map {B = ℕ × ℕ} (λ i. (x, 5 * k + i)) rows) (rows_more v j false h e)

pub cells_left-end : (k x v j : ℕ) → 5 ≤ j → cells_left k x v j ≡ []
cells_left-end k x v j h =
    let none : 5 - j ≡ 0 = omega arith in
    ap (λ n. map {B = ℕ × ℕ} (λ i. (x, 5 * k + i)) (filter (λ i. bit_at v i == 1) (range_with_len j n))) none

pub bit_set : (v j : ℕ) → v / 2 ^ j % 2 ≡ 1 → (bit_at v j == 1) ≡ true
bit_set v j h = ap (λ b. b == 1) h

pub bit_clear : (v j : ℕ) → v / 2 ^ j % 2 ≢ 1 → (bit_at v j == 1) ≡ false
bit_clear v j h = other (bit_at v j) h
  where
    other : (b : ℕ) → b ≢ 1 → (b == 1) ≡ false
    other b h = grind (arith, nat_tests)

is_far_one : (x y : ℕ) → (place_limit ≤ x) ⊎ (place_limit ≤ y) → is_far (x, y) ≡ true
is_far_one x y h = grind (arith, nat_tests)

pub is_near_one : (x y : ℕ) → x < place_limit → y < place_limit → is_far (x, y) ≡ false
is_near_one x y h g = grind (arith, nat_tests)

pub left_far : (k x v j : ℕ) → j < 5 → (bit_at v j == 1) ≡ true → (place_limit ≤ x) ⊎ (place_limit ≤ 5 * k + j) → list_any is_far (cells_left k x v j) ≡ true
left_far k x v j h e f =
    ap (list_any is_far) (cells_left-live k x v j h e) ∙ ap (λ b. b || list_any is_far (cells_left k x v (j + 1))) (is_far_one x (5 * k + j) f)

pub left_near : (k x v j : ℕ) → j < 5 → (bit_at v j == 1) ≡ true → x < place_limit → 5 * k + j < place_limit → list_any is_far (cells_left k x v j) ≡ list_any is_far (cells_left k x v (j + 1))
left_near k x v j h e f g =
    ap (list_any is_far) (cells_left-live k x v j h e) ∙ ap (λ b. b || list_any is_far (cells_left k x v (j + 1))) (is_near_one x (5 * k + j) f g)

pub left_more : (k x v j : ℕ) (all cells new : List Cell) → j < 5 → (bit_at v j == 1) ≡ true → all ≡ cells ++ map cell_of_pair (cells_left k x v j) → new ≡ cells ++ cell_of_pair (x, 5 * k + j) ∷ [] → all ≡ new ++ map cell_of_pair (cells_left k x v (j + 1))
left_more k x v j all cells new h e a n =
    a ∙ ap (λ left. cells ++ map cell_of_pair left) (cells_left-live k x v j h e)
    ∙ sym (append_assoc cells (cell_of_pair (x, 5 * k + j) ∷ []) (map cell_of_pair (cells_left k x v (j + 1))))
    ∙ ap (λ front. front ++ map cell_of_pair (cells_left k x v (j + 1))) (sym n)

-- ---- one sign, with strip and column capped

pub drawn_capped : (k x : ℕ) (m : Mark) (ms : List Mark) (k' x' : ℕ) → mark_fault k x m ≡ None → k' ≡ min (strip_behind k m) place_limit → x' ≡ min (column_behind x m) place_limit → cells_drawn k x (m ∷ ms) ≡ with_prefix (map cell_of_pair (mark_cells k x m)) (cells_drawn k' x' ms)
drawn_capped k x m ms k' x' h s c =
    drawn_step k x m ms h
    ∙ ap (with_prefix (map cell_of_pair (mark_cells k x m))) (drawn_near ms (strip_behind k m) (min (strip_behind k m) place_limit) (column_behind x m) (min (column_behind x m) place_limit) (near_capped (strip_behind k m)) (near_capped (column_behind x m)) ∙ (λ i. cells_drawn (sym s i) (sym c i) ms))

-- the reader's step: what is drawn so far, a mark, and what is drawn after it
pub drawn_more : (all : Result (List Cell) CodeFault) (cells new : List Cell) (k x : ℕ) (m : Mark) (here ms : List Mark) (k' x' : ℕ) → all ≡ with_prefix cells (cells_drawn k x here) → here ≡ m ∷ ms → mark_fault k x m ≡ None → k' ≡ min (strip_behind k m) place_limit → x' ≡ min (column_behind x m) place_limit → new ≡ cells ++ map cell_of_pair (mark_cells k x m) → all ≡ with_prefix new (cells_drawn k' x' ms)
drawn_more all cells new k x m here ms k' x' a e h s c n =
    a ∙ ap (λ rest. with_prefix cells (cells_drawn k x rest)) e ∙ ap (with_prefix cells) (drawn_capped k x m ms k' x' h s c)
    ∙ with_prefix-twice cells (map cell_of_pair (mark_cells k x m)) (cells_drawn k' x' ms) ∙ ap (λ front. with_prefix front (cells_drawn k' x' ms)) (sym n)

pub drawn_refused : (all : Result (List Cell) CodeFault) (cells : List Cell) (k x : ℕ) (m : Mark) (here ms : List Mark) (fault : CodeFault) → all ≡ with_prefix cells (cells_drawn k x here) → here ≡ m ∷ ms → mark_fault k x m ≡ Some fault → all ≡ Err fault
drawn_refused all cells k x m here ms fault a e h =
    a ∙ ap (λ rest. with_prefix cells (cells_drawn k x rest)) e ∙ ap (with_prefix cells) (drawn_stop k x m ms fault h)

-- ---- what the whole text gives

pub from_start : (text : List ℕ) → cells_drawn 0 0 (marks_at text 0) ≡ cells_unless (first_fault [] (marks_of text)) (cells_after [] (marks_of text))
from_start text = λ i. cells_unless (sym (first_fault_is (marks_of text) []) i) (sym (cells_after_is (marks_of text) []) i)

pub given_cells : (fault : Option CodeFault) (cells : List (ℕ × ℕ)) (items : List Cell) → cells_unless fault cells ≡ Ok items → (fault ≡ None) × (map cell_of_pair cells ≡ items)
given_cells None cells items e = (refl, cc)
given_cells (Some fault) cells items e = cc

pub given_fault : (fault : Option CodeFault) (cells : List (ℕ × ℕ)) (told : CodeFault) → cells_unless fault cells ≡ Err told → fault ≡ Some told
given_fault None cells told e = cc
given_fault (Some fault) cells told e = ap Some cc
