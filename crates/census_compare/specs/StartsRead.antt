-- Patterns of folders while they are compared.
use Rattle.std.specs.Prelude.{ℕ, List, slice_index_or}
use Rattle.census_table.specs.declared.place.Place.{Place}
use Rattle.census_compare.specs.Starts.{Start}
use Rattle.census_compare.specs.declared.starts.Begun.{Begun}
use Rattle.census_compare.specs.declared.told.Told.{Told}

abbrev pub start_read : Begun → Start
start_read begun = record { rule = begun.rule.items; code = begun.code.items; collection = begun.collection.now; name = begun.name.now }

-- the pattern whose index is the row of a place, or this one if there is none
abbrev pub told_in : Told → List Told → Place → Told
told_in nothing tolds place = slice_index_or tolds place.row nothing
