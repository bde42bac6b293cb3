-- Rows on pages. No public clause cites this module.
use Rattle.std.specs.Prelude.{◌≡◌, ⊤, List, [], ◌∷◌, ◌++◌, length}
use Rattle.census_rows.specs.declared.row.Row.{Row}

-- the rows of pages, one page after another
abbrev pub rows_of_pages : List (List Row) → List Row
rows_of_pages [] = []
rows_of_pages (page ∷ pages) = page ++ rows_of_pages pages

-- each page is full
abbrev pub AreFull : List (List Row) → Type 0
AreFull [] = ⊤
AreFull (page ∷ pages) = (length page ≡ 64) × AreFull pages
