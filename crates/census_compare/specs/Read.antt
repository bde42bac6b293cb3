-- Rows while they are being read.
use Rattle.std.specs.Prelude.{ℕ, ◌+◌, ◌≤◌, ◌^◌, List, [], ◌∷◌, length, map}
use Rattle.census_compare.specs.Rows.{Begun, Row, whole, broken, begun_on, rows_from}
use Rattle.census_compare.specs.declared.rows.Begun.{Begun as BegunRead}
use Rattle.census_compare.specs.declared.rows.Reader.{Reader}
use Rattle.census_compare.specs.declared.rows.Step.{Step}
use Rattle.census_compare.specs.declared.rows.Step.TheVariants.{More, End, Fault}
use Rattle.census_compare.specs.declared.rows.TextRow.{TextRow}
use Rattle.census_compare.specs.declared.rows.TextRow.TheVariants.{Whole, Broken}

abbrev pub begun_read : BegunRead → Begun
begun_read row =
    record { place = row.place; begun = row.begun; line = row.line; cells = map (λ cell. cell.items) row.cells.items; cell = row.cell.items }

abbrev pub row_read : TextRow → Row
row_read (Whole line cells) = whole line (map (λ cell. cell.items) cells.items)
row_read (Broken line) = broken line

-- the rows of a text after a byte, by what it did; after the end of a row this is the line of the next one
abbrev pub step_rows : Step → Begun → List ℕ → List Row
step_rows More row rest = rows_from row rest
step_rows End row rest = whole row.begun row.cells ∷ rows_from (begun_on row.line) rest
step_rows Fault row rest = broken row.begun ∷ []

-- the rows that are not read yet
abbrev pub rows_left : Reader → List Row
rows_left reader = rows_from (begun_on reader.line) reader.text.now

-- the numbers of the lines that are left fit
abbrev pub HasLines : Reader → Type 0
HasLines reader = reader.line + length reader.text.now ≤ 2 ^ 63
