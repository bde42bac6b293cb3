-- Whether a live cell is kept of the marks from a place on.
use Rattle.std.proofs.Common.{◌≡◌, ℕ, ◌+◌, ◌<◌, ◌*◌, min, Bool, true, false, not, ◌||◌, List, [], ◌∷◌, ◌++◌, length, map, Result, Ok, Err, refl, sym, ap, ◌∙◌, arith}
use Rattle.std.specs.Prelude.{IfErr, ◌==◌}
use Rattle.std.specs.Int.{bit_at}
use Rattle.std.specs.List.{list_any}
use Rattle.std.proofs.lemmas.Bool.{or_parts}
use Rattle.std.proofs.lemmas.List.{length-map}
use Rattle.life_model.specs.Cell.{Cell}
use Rattle.life_model.specs.Generation.{Generation, cells, from_list}
use Rattle.life_model.proofs.Generations.{cells-from_list}
use Rattle.life_cells.specs.Limits.{place_limit}
use Rattle.life_cells.specs.Readings.{cell_of_pair}
use Rattle.life_cells.specs.declared.reader.CodeFault.{CodeFault}
use Rattle.life_cells.specs.declared.reader.CodeFault.TheVariants.{Memory}
use Rattle.life_cells.specs.CodeReading.{Mark, Column, Zeros, NextStrip, Offence, begins_near, column_cells, is_far, is_offence, keeps_a_cell, live_rows, marks_of, mark_cells, until_offence}
use Rattle.life_cells.specs.Drawing.{strip_behind, column_behind, cells_left, keeps_from, marks_at}
use Rattle.life_cells.proofs.Drawings.{AreNear, cells_after_is, far_column, far_row, cells_left-live, is_near_one, near_capped, near_itself, near_more}

pub if_refused : {X Y : Type 0} (r : Result X CodeFault) → Y → IfErr r (λ fault. fault ≡ Memory → Y)
if_refused (Ok x) y = tt
if_refused (Err fault) y = λ _. y

-- ---- the first of some cells

near_here : (cs rest : List (ℕ × ℕ)) → begins_near cs ≡ true → begins_near (cs ++ rest) ≡ true
near_here [] rest h = cc
near_here (c ∷ cs) rest h = h

near_further : (cs rest : List (ℕ × ℕ)) → list_any is_far cs ≡ false → begins_near rest ≡ true → begins_near (cs ++ rest) ≡ true
near_further [] rest h g = g
near_further (c ∷ cs) rest h g = ap not (or_parts _ _ h).0

near_first : (cs : List (ℕ × ℕ)) → list_any is_far cs ≡ false → 0 < length cs → begins_near cs ≡ true
near_first [] h g = absurd (omega arith)
near_first (c ∷ cs) h g = ap not (or_parts _ _ h).0

pub near_left : (k x v j : ℕ) → j < 5 → (bit_at v j == 1) ≡ true → x < place_limit → 5 * k + j < place_limit → begins_near (cells_left k x v j) ≡ true
near_left k x v j h e f g = ap begins_near (cells_left-live k x v j h e) ∙ ap not (is_near_one x (5 * k + j) f g)

-- ---- strip and column may be kept capped

abbrev begins_rows : (x k : ℕ) (rows : List ℕ) (rest : List (ℕ × ℕ)) → Bool
begins_rows x k rows rest = begins_near (map {B = ℕ × ℕ} (λ j. (x, 5 * k + j)) rows ++ rest)

same_first : (k l x y : ℕ) → AreNear k l → AreNear x y → (rows : List ℕ) (rest others : List (ℕ × ℕ)) → begins_near rest ≡ begins_near others → begins_rows x k rows rest ≡ begins_rows y l rows others
same_first k l x y h g [] rest others e = e
same_first k l x y h g (j ∷ rows) rest others e = λ i. not (far_column x y g i || far_row k l j h i)

keeps_near : (ms : List Mark) (k l x y : ℕ) → AreNear k l → AreNear x y → keeps_from k x ms ≡ keeps_from l y ms
keeps_near [] k l x y h g = refl
keeps_near (Column at v ∷ ms) k l x y h g = same_first k l x y h g (live_rows v) _ _ (keeps_near ms k l (x + 1) (y + 1) h (near_more x y 1 g))
keeps_near (Zeros n ∷ ms) k l x y h g = keeps_near ms k l (x + n) (y + n) h (near_more x y n g)
keeps_near (NextStrip ∷ ms) k l x y h g = keeps_near ms (k + 1) (l + 1) 0 0 (near_more k l 1 h) (near_itself 0)
keeps_near (Offence fault ∷ ms) k l x y h g = refl

keeps_capped : (k x : ℕ) (ms : List Mark) (k' x' : ℕ) → k' ≡ min k place_limit → x' ≡ min x place_limit → keeps_from k' x' ms ≡ keeps_from k x ms
keeps_capped k x ms k' x' s c = (λ i. keeps_from (s i) (c i) ms) ∙ sym (keeps_near ms k (min k place_limit) x (min x place_limit) (near_capped k) (near_capped x))

-- ---- one mark

pub keeps_step : (k x : ℕ) (m : Mark) (here ms : List Mark) (k' x' : ℕ) → here ≡ m ∷ ms → is_offence m ≡ false → list_any is_far (mark_cells k x m) ≡ false → k' ≡ min (strip_behind k m) place_limit → x' ≡ min (column_behind x m) place_limit → keeps_from k' x' ms ≡ true → keeps_from k x here ≡ true
keeps_step k x m here ms k' x' e o h s c g =
    ap (keeps_from k x) e ∙ goes_on m o h (sym (keeps_capped (strip_behind k m) (column_behind x m) ms k' x' s c) ∙ g)
  where
    goes_on : (m : Mark) → is_offence m ≡ false → list_any is_far (mark_cells k x m) ≡ false → keeps_from (strip_behind k m) (column_behind x m) ms ≡ true → keeps_from k x (m ∷ ms) ≡ true
    goes_on (Column at v) o h g = near_further (column_cells k x v) _ h g
    goes_on (Zeros n) o h g = g
    goes_on NextStrip o h g = g
    goes_on (Offence fault) o h g = cc

pub keeps_column : (k x at v : ℕ) (here ms : List Mark) → here ≡ Column at v ∷ ms → begins_near (column_cells k x v) ≡ true → keeps_from k x here ≡ true
keeps_column k x at v here ms e h = ap (keeps_from k x) e ∙ near_here (column_cells k x v) _ h

-- a cell was kept before this column, or it is one of these
pub kept_more : (b : Bool) (k x at v : ℕ) (old new : List Cell) (here ms : List Mark) → (0 < length old → b ≡ true) → (keeps_from k x here ≡ true → b ≡ true) → here ≡ Column at v ∷ ms → list_any is_far (column_cells k x v) ≡ false → new ≡ old ++ map cell_of_pair (column_cells k x v) → 0 < length new → b ≡ true
kept_more b k x at v [] new here ms before further e h n some =
    let count : 0 < length (column_cells k x v) = let total = ap length n ∙ length-map (column_cells k x v) cell_of_pair in omega arith in
    further (keeps_column k x at v here ms e (near_first (column_cells k x v) h count))
kept_more b k x at v (c ∷ old) new here ms before further e h n some = before (omega arith)

-- ---- the whole text

pub keeps_whole : (text : List ℕ) → keeps_from 0 0 (marks_at text 0) ≡ true → keeps_a_cell text ≡ true
unfolding keeps_a_cell
keeps_whole text h = ap begins_near (cells_after_is (until_offence (marks_of text)) []) ∙ h

-- a set with a member is that of a list with one
pub some_cell : (cs : List Cell) (G : Generation) → G ≡ from_list cs → 0 < length (cells G) → 0 < length cs
some_cell [] G e h =
    let none = ap length (ap cells e ∙ cells-from_list [] tt) in
    absurd (omega arith)
some_cell (c ∷ cs) G e h = omega arith
