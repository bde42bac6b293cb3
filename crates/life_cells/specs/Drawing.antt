-- The state of the reader (the place in the text, the strip and the column), and what it reads from there on.
use Rattle.std.specs.Prelude.{◌≡◌, ℕ, ◌+◌, ◌-◌, ◌*◌, ◌<◌, ◌≤◌, ◌==◌, Bool, List, [], ◌∷◌, ◌++◌, Option, None, Result, drop, map}
use Rattle.std.specs.List.{filter, range_with_len}
use Rattle.std.specs.Int.{bit_at}
use Rattle.std.specs.Option.{option_or}
use Rattle.life_model.specs.Cell.{Cell}
use Rattle.life_cells.specs.Readings.{cell_of_pair, unless_refused}
use Rattle.life_cells.specs.declared.reader.CodeFault.{CodeFault}
use Rattle.life_cells.specs.declared.reader.Sign.{Sign}
use Rattle.life_cells.specs.declared.reader.Sign.TheVariants.{Value, Skip, Down}
use Rattle.life_cells.specs.CodeReading.{Mark, Column, Zeros, NextStrip, Offence, begins_near, mark_cells, mark_fault, marks, until_offence}

-- strip and column after a mark
abbrev pub strip_behind : ℕ → Mark → ℕ
strip_behind k (Column at v) = k
strip_behind k (Zeros n) = k
strip_behind k NextStrip = k + 1
strip_behind k (Offence fault) = k

abbrev pub column_behind : ℕ → Mark → ℕ
column_behind x (Column at v) = x + 1
column_behind x (Zeros n) = x + n
column_behind x NextStrip = 0
column_behind x (Offence fault) = x

-- the cells that marks spell from strip k and column x on, and their first fault
abbrev pub cells_from : ℕ → ℕ → List Mark → List (ℕ × ℕ)
cells_from k x [] = []
cells_from k x (m ∷ ms) = mark_cells k x m ++ cells_from (strip_behind k m) (column_behind x m) ms

abbrev pub fault_from : ℕ → ℕ → List Mark → Option CodeFault
fault_from k x [] = None
fault_from k x (m ∷ ms) = option_or (mark_fault k x m) (fault_from (strip_behind k m) (column_behind x m) ms)

-- cells, or the fault if there is one
abbrev pub cells_unless : Option CodeFault → List (ℕ × ℕ) → Result (List Cell) CodeFault
cells_unless fault cells = unless_refused fault (map cell_of_pair cells)

abbrev pub cells_drawn : ℕ → ℕ → List Mark → Result (List Cell) CodeFault
cells_drawn k x ms = cells_unless (fault_from k x ms) (cells_from k x ms)

-- true where a live cell is kept of the marks from strip k and column x on
abbrev pub keeps_from : ℕ → ℕ → List Mark → Bool
keeps_from k x ms = begins_near (cells_from k x (until_offence ms))

-- the marks from a place of the text on
abbrev pub marks_at : List ℕ → ℕ → List Mark
marks_at text at = marks None at (drop at text)

-- the first of the marks is m
abbrev pub BeginsWithMark : Mark → List Mark → Type 0
BeginsWithMark m ms = (rest : List Mark) × (ms ≡ m ∷ rest)

-- the meaning of a sign at this place
abbrev pub mark_of_sign : ℕ → Sign → Mark
mark_of_sign at (Value v) = Column at v
mark_of_sign at (Skip n) = Zeros n
mark_of_sign at Down = NextStrip

-- the number of a sign is in the range that the text's digits allow
abbrev pub IsWithinDigits : Sign → Type 0
IsWithinDigits (Value v) = v < 32
IsWithinDigits (Skip n) = n ≤ 39
IsWithinDigits Down = 0 ≤ 0

-- the rows of a column's value from row j on, and the cells there
abbrev pub rows_left : ℕ → ℕ → List ℕ
rows_left v j = filter (λ i. bit_at v i == 1) (range_with_len j (5 - j))

abbrev pub cells_left : ℕ → ℕ → ℕ → ℕ → List (ℕ × ℕ)
cells_left k x v j = map {B = ℕ × ℕ} (λ i. (x, 5 * k + i)) (rows_left v j)
