-- The objects in reports.
use Rattle.std.specs.Prelude.{ℕ, Option, Some, None, List, [], ◌∷◌}
use Rattle.std.specs.Borrow.{Bor}
use Rattle.std.specs.List.{cons_option, enumerate_from, flat_map}
use Rattle.std.specs.Option.{option_map, option_or}
use Rattle.census_rows.specs.declared.kinds.Label.TheVariants as label
use Rattle.census_rows.specs.declared.kinds.Value.{Value}
use Rattle.census_rows.specs.declared.kinds.Value.TheVariants.{Text}
use Rattle.census_rows.specs.declared.row.Row.{Row}
use Rattle.census_rows.specs.declared.row.Row.TheVariants.{Line, Part}
use Rattle.census_rows.specs.Kinds.{said, value_at}
use Rattle.census_readback.specs.Grouped.{collections_of}
use Rattle.census_table.specs.Entries.{entry_of_row}
use Rattle.census_table.specs.declared.entry.Entry.{Entry}
use Rattle.census_table.specs.declared.object.Object.{Object}

abbrev pub text_in : Option Value → Option (Bor (List ℕ))
text_in (Some (Text bytes)) = Some bytes
text_in _ = None

-- a number of objects with a code under the pattern's rule
abbrev pub object_with : Option Entry → ℕ → Option (Bor (List ℕ)) → Option Object
object_with (Some entry) number (Some code) =
    option_map (λ rule. record { first = entry; rule = rule; code = code; count = number; patterns = 1; share = 0 })
    (text_in (value_at label.Rule (said entry.outcome).fields))
object_with _ number _ = None

-- the object that a row reports for the pattern of the last line: what the pattern is, or some of its parts
abbrev pub object_of_row : Option Entry → Row → Option Object
object_of_row entry (Line collection pattern outcome name) = object_with entry 1 (text_in (value_at label.Code (said outcome).fields))
object_of_row entry (Part collection pattern code count) = object_with entry count (Some code)
object_of_row entry _ = None

-- the objects of these rows, in the collection that `heading` opens and that has this number, where `last` is the last pattern
-- before them
abbrev pub objects_under : ℕ → Row → Option Entry → List Row → List Object
objects_under number heading last [] = []
objects_under number heading last (row ∷ rows) =
    let entry = option_or (entry_of_row number heading row) last in
    cons_option (object_of_row entry row) (objects_under number heading entry rows)

-- the last pattern of these rows, where `last` is the one before them
abbrev pub last_under : ℕ → Row → Option Entry → List Row → Option Entry
last_under number heading last [] = last
last_under number heading last (row ∷ rows) = last_under number heading (option_or (entry_of_row number heading row) last) rows

-- the objects of a collection's rows, the first of which opens it
abbrev pub section_objects : ℕ → List Row → List Object
section_objects number [] = []
section_objects number (heading ∷ rows) = objects_under number heading None rows

-- the objects of each collection's rows, numbered from `number` on
abbrev pub all_objects : ℕ → List (List Row) → List Object
all_objects number sections = flat_map (λ s. section_objects s.0 s.1) (enumerate_from number sections)

-- The objects of reports, pattern by pattern: what a pattern is, or what its parts are.
abbrev pub objects_of : List Row → List Object
objects_of rows = flat_map (λ s. section_objects s.0 s.1) (enumerate_from 1 (collections_of [] rows))
