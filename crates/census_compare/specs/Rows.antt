-- Rows of comma-separated values, as RFC 4180 has them.
use Rattle.std.specs.Prelude.{ℕ, ◌+◌, ◌==◌, if◌then◌else◌, List, [], ◌∷◌, ◌++◌, drop, nat_eq}
use Rattle.std.specs.List.{starts_with}
use Rattle.census_compare.specs.declared.place.Move.{Move}
use Rattle.census_compare.specs.declared.place.Move.TheVariants.{Add, Pass, EndCell, EndRow, Break}
use Rattle.census_compare.specs.declared.place.Place.{Place}
use Rattle.census_compare.specs.declared.place.Place.TheVariants.{Start, Plain, Quoted, Closed, Return}

-- what a byte does outside quotes: `,` ends the cell, LF and CR LF end the row, and any other byte does `other`
abbrev pub outside : ℕ → Move → Move
outside byte other = if byte == 44 then EndCell else if byte == 10 then EndRow else if byte == 13 then Pass Return else other

-- what a byte does at a place
abbrev pub move_of : Place → ℕ → Move
move_of Start byte = if byte == 34 then Pass Quoted else outside byte (Add Plain)
move_of Plain byte = if byte == 34 then Break else outside byte (Add Plain)
move_of Quoted byte = if byte == 34 then Pass Closed else Add Quoted
move_of Closed byte = if byte == 34 then Add Quoted else outside byte Break
move_of Return byte = if byte == 10 then EndRow else Break

-- a row that is being read: where, on which line it begins, on which line the next byte is, its cells, and the bytes of the
-- cell after these
pub record Begun : Type 0 where
  pub place : Place
  pub begun : ℕ
  pub line : ℕ
  pub cells : List (List ℕ)
  pub cell : List ℕ

-- a row of which nothing has been read, on this line
abbrev pub begun_on : ℕ → Begun
begun_on line = record { place = Start; begun = line; line = line; cells = []; cell = [] }

-- the cells of a row that ends here
abbrev pub all_cells : Begun → List (List ℕ)
all_cells row = row.cells ++ row.cell ∷ []

-- with one more byte in the cell
abbrev pub with_byte : Place → ℕ → Begun → Begun
with_byte place byte row =
    record row { place = place; line = if byte == 10 then row.line + 1 else row.line; cell = row.cell ++ byte ∷ [] }

-- before the next cell
abbrev pub cell_ended : Begun → Begun
cell_ended row = record row { place = Start; cells = all_cells row; cell = [] }

-- a row that begins on this line, and its cells, or a faulty row
pub data Row : Type 0 where
  whole : ℕ → List (List ℕ) → Row
  broken : ℕ → Row

abbrev pub line_of : Row → ℕ
line_of (whole line cells) = line
line_of (broken line) = line

-- the row that the end of a text makes: none where it follows the last row
abbrev pub ended : Place → List (List ℕ) → ℕ → List (List ℕ) → List Row
ended Start [] line cells = []
ended Quoted before line cells = broken line ∷ []
ended Return before line cells = broken line ∷ []
ended place before line cells = whole line cells ∷ []

-- the rows of a text, beginning with one that is being read, up to the first faulty one
abbrev pub rows_from : Begun → List ℕ → List Row
rows_from row [] = ended row.place row.cells row.begun (all_cells row)
rows_from row (byte ∷ text) =
    elim (move_of row.place byte) [
      | Add place ↦ rows_from (with_byte place byte row) text
      | Pass place ↦ rows_from (record row { place = place }) text
      | EndCell ↦ rows_from (cell_ended row) text
      | EndRow ↦ whole row.begun (all_cells row) ∷ rows_from (begun_on (row.line + 1)) text
      | Break ↦ broken row.begun ∷ []
    ]

-- a text without the byte order mark that it may begin with
abbrev pub without_mark : List ℕ → List ℕ
without_mark text = if starts_with nat_eq text (239 ∷ 187 ∷ 191 ∷ []) then drop 3 text else text

-- the rows of a text, up to the first faulty one
abbrev pub rows_of : List ℕ → List Row
rows_of text = rows_from (begun_on 1) (without_mark text)
