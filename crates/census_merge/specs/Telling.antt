-- What rows say of collections.
use Rattle.std.specs.Prelude.{◌≡◌, ℕ, List, [], ◌∷◌, ◌++◌, map}
use Rattle.census_format.specs.Lines.{Collection}
use Rattle.census_format.specs.Reports.{Owned, end_of, lines_of, section}
use Rattle.census_rows.specs.declared.row.Row.{Row}
use Rattle.census_rows.specs.Lines.{spelling}

-- the rows of all groups
abbrev pub rows_in : List Owned → List Row
rows_in [] = []
rows_in (l ∷ ls) = l.group ++ rows_in ls

-- The rows are spelled as those of the sections of all collections, interleaved line by line, followed by the `end` row. The
-- rows of one pattern stay together.
pub record Tells (said : List Collection) (rows : List Row) : Type 0 where
  pub groups : List Owned
  pub sections : (c : ℕ) → lines_of c groups ≡ section said c
  pub body : List Row
  pub spelled : map spelling body ≡ map spelling (rows_in groups)
  pub whole : rows ≡ body ++ end_of said
