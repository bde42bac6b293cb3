-- Reading Wechsler texts: the cells that a text spells, and the first character that offends.
use Rattle.std.specs.Prelude.{ℕ, ◌+◌, ◌-◌, ◌*◌, Bool, true, false, not, ◌&&◌, ◌||◌, List, [], ◌∷◌, ◌++◌, Option, Some, None, map, nat_le, ◌==◌, if◌then◌else◌}
use Rattle.std.specs.List.{list_any, range_with_len, after_last, filter, sum_by}
use Rattle.std.specs.Option.{option_or}
use Rattle.std.specs.Int.{bit_at}
use Rattle.life_model.specs.Generation.{Generation, from_list}
use Rattle.life_cells.specs.Limits.{place_limit}
use Rattle.life_cells.specs.declared.reader.CodeFault.{CodeFault}
use Rattle.life_cells.specs.declared.reader.CodeFault.TheVariants.{Empty, BadChar, CutRun, TooFar}
use Rattle.life_cells.specs.Readings.{cell_of_pair}

-- `0` to `9`, and `a` to `z`
abbrev pub is_base_36_digit : ℕ → Bool
is_base_36_digit c = (nat_le 48 c && nat_le c 57) || (nat_le 97 c && nat_le c 122)

-- the value of such a byte
abbrev pub digit_value : ℕ → ℕ
digit_value c = if nat_le c 57 then c - 48 else c - 87

-- the meaning of a byte, or of `y` and the byte after it: a column of a value, columns of 0, the next strip, or a fault
pub data Mark : Type 0 where
  Column : (at value : ℕ) → Mark
  Zeros : (count : ℕ) → Mark
  NextStrip : Mark
  Offence : CodeFault → Mark

-- the meaning of a byte other than `y`
abbrev pub mark_of_byte : ℕ → ℕ → Mark
mark_of_byte at c =
    if is_base_36_digit c then (if c == 122 then NextStrip else (if c == 119 then Zeros 2 else (if c == 120 then Zeros 3 else Column at (digit_value c)))) else Offence (BadChar at)

-- the meaning of `y` and the byte after it
abbrev pub mark_of_run : ℕ → ℕ → Mark
mark_of_run at c = if is_base_36_digit c then Zeros (4 + digit_value c) else Offence (CutRun at)

-- The marks of a text from this place on. If a `y` comes before it, its place is given.
abbrev pub marks : Option ℕ → ℕ → List ℕ → List Mark
marks None at [] = []
marks (Some y) at [] = Offence (CutRun y) ∷ []
marks None at (c ∷ rest) = if c == 121 then marks (Some at) (at + 1) rest else mark_of_byte at c ∷ marks None (at + 1) rest
marks (Some y) at (c ∷ rest) = mark_of_run y c ∷ marks None (at + 1) rest

abbrev pub marks_of : List ℕ → List Mark
marks_of text = marks None 0 text

abbrev pub is_next_strip : Mark → Bool
is_next_strip NextStrip = true
is_next_strip (Column at v) = false
is_next_strip (Zeros n) = false
is_next_strip (Offence fault) = false

abbrev pub columns_in : Mark → ℕ
columns_in (Column at v) = 1
columns_in (Zeros n) = n
columns_in NextStrip = 0
columns_in (Offence fault) = 0

-- the strip of a mark that comes after these
abbrev pub strip_number : List Mark → ℕ
strip_number before = sum_by (λ m. if is_next_strip m then 1 else 0) before

-- its column
abbrev pub column : List Mark → ℕ
column before = sum_by columns_in (after_last is_next_strip before)

-- the rows of a column of this value, from the top
abbrev pub live_rows : ℕ → List ℕ
live_rows v = filter (λ j. bit_at v j == 1) (range_with_len 0 5)

-- the live cells of column x of strip k
abbrev pub column_cells : ℕ → ℕ → ℕ → List (ℕ × ℕ)
column_cells k x v = map {B = ℕ × ℕ} (λ j. (x, 5 * k + j)) (live_rows v)

-- the live cells of a mark in strip k, at column x
abbrev pub mark_cells : ℕ → ℕ → Mark → List (ℕ × ℕ)
mark_cells k x (Column at v) = column_cells k x v
mark_cells k x (Zeros n) = []
mark_cells k x NextStrip = []
mark_cells k x (Offence fault) = []

-- the cells, of any size, that marks after these spell
abbrev pub cells_after : List Mark → List Mark → List (ℕ × ℕ)
cells_after before [] = []
cells_after before (m ∷ ms) = mark_cells (strip_number before) (column before) m ++ cells_after (before ++ m ∷ []) ms

abbrev pub is_far : ℕ × ℕ → Bool
is_far (x, y) = nat_le place_limit x || nat_le place_limit y

-- the fault of a mark in strip k, at column x
abbrev pub mark_fault : ℕ → ℕ → Mark → Option CodeFault
mark_fault k x (Column at v) = if list_any is_far (column_cells k x v) then Some (TooFar at) else None
mark_fault k x (Zeros n) = None
mark_fault k x NextStrip = None
mark_fault k x (Offence fault) = Some fault

-- the fault of the first mark that has one, among those after these
abbrev pub first_fault : List Mark → List Mark → Option CodeFault
first_fault before [] = None
first_fault before (m ∷ ms) = option_or (mark_fault (strip_number before) (column before) m) (first_fault (before ++ m ∷ []) ms)

-- the cells that the text's lawful characters spell, of any size
unfoldable pub cells_spelled : List ℕ → Generation
cells_spelled text = from_list (map cell_of_pair (cells_after [] (marks_of text)))

abbrev pub is_offence : Mark → Bool
is_offence (Column at v) = false
is_offence (Zeros n) = false
is_offence NextStrip = false
is_offence (Offence fault) = true

-- the marks before the first that offends
abbrev pub until_offence : List Mark → List Mark
until_offence [] = []
until_offence (m ∷ ms) = if is_offence m then [] else m ∷ until_offence ms

-- true where there is a first cell, and it is not too far
abbrev pub begins_near : List (ℕ × ℕ) → Bool
begins_near [] = false
begins_near (c ∷ cells) = not (is_far c)

-- true where a live cell is kept before the first fault: there is one before the first byte that offends, and the first
-- of these is not too far
unfoldable pub keeps_a_cell : List ℕ → Bool
keeps_a_cell text = begins_near (cells_after [] (until_offence (marks_of text)))

-- the fault for which a text is refused, if there is one
unfoldable pub refusal : List ℕ → Option CodeFault
refusal [] = Some Empty
refusal (c ∷ rest) = first_fault [] (marks_of (c ∷ rest))
