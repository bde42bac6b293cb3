-- Rows by their numbers.
use Rattle.std.specs.Prelude.{ℕ, ◌<◌, ⊤, List, [], ◌∷◌, length, map, slice_index_or}
use Rattle.census_rows.specs.declared.row.Row.{Row}
use Rattle.census_rows.specs.declared.row.Row.TheVariants.{End}

-- the row with a number, which counts from 0
unfoldable pub row_numbered : List Row → ℕ → Row
row_numbered rows number = slice_index_or rows number (End 0 0)

-- the rows with these numbers
abbrev pub rows_numbered : List Row → List ℕ → List Row
rows_numbered rows numbers = map (row_numbered rows) numbers

abbrev pub IsWithin : List Row → ℕ → Type 0
IsWithin rows number = number < length rows

-- there are rows with all of these numbers
abbrev pub AreWithin : List Row → List ℕ → Type 0
AreWithin rows [] = ⊤
AreWithin rows (number ∷ numbers) = IsWithin rows number × AreWithin rows numbers
