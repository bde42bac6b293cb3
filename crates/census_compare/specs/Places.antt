-- Patterns by their places in reports.
use Rattle.std.specs.Prelude.{ℕ, Some, None as Nothing, List, [], slice_index_or}
use Rattle.std.specs.Borrow.{Bor}
use Rattle.std.specs.Option.{unwrap_or}
use Rattle.census_rows.specs.declared.row.Row.{Row}
use Rattle.census_table.specs.Places.{row_in}
use Rattle.census_table.specs.declared.place.Place.{Place}
use Rattle.census_compare.specs.SamePatterns.{collection_after, told_by}
use Rattle.census_compare.specs.declared.told.Told.{Told}

-- the name of the collection that a row opens, or this one if it opens none
abbrev pub opened_by : Bor (List ℕ) → Row → Bor (List ℕ)
opened_by nothing row = unwrap_or (collection_after Nothing row) nothing

-- the pattern of a row in a collection that has this name, or this one if it has none
abbrev pub told_under : Told → Bor (List ℕ) → Row → Told
told_under nothing collection row = unwrap_or (told_by (Some collection) row) nothing

-- the row at an index of a collection
abbrev pub row_at : List (List Row) → ℕ → ℕ → Row
row_at sections collection index = row_in (slice_index_or sections collection []) index

-- the pattern that is reported at a place; if there is none, its fields are those of this one
abbrev pub told_at : Told → List (List Row) → Place → Told
told_at nothing sections place =
    told_under nothing (opened_by nothing.collection (row_at sections place.collection place.under)) (row_at sections place.collection place.row)
