-- The patterns of a report.
use Rattle.std.specs.Prelude.{ℕ, ◌==◌, if◌then◌else◌, Option, Some, None, List, [], ◌∷◌}
use Rattle.std.specs.Borrow.{Bor}
use Rattle.std.specs.List.{cons_option, enumerate_from, flat_map}
use Rattle.std.specs.Option.{option_map}
use Rattle.census_rows.specs.Kinds.{said, value_at}
use Rattle.census_rows.specs.declared.kinds.Label.TheVariants as label
use Rattle.census_rows.specs.declared.row.Outcome.{Outcome}
use Rattle.census_rows.specs.declared.row.Row.{Row}
use Rattle.census_rows.specs.declared.row.Row.TheVariants.{Open, Line, Engine}
use Rattle.census_readback.specs.Grouped.{collections_of}
use Rattle.census_readback.specs.Lawful.{number_in}
use Rattle.census_table.specs.declared.entry.EngineWay.{EngineWay}
use Rattle.census_table.specs.declared.entry.Entry.{Entry}

-- a pattern of the collection that a row opens and that has this number
abbrev pub entry_for : ℕ → Row → ℕ → Outcome → Bor (List ℕ) → Option Entry
entry_for number (Open collection patterns title) pattern outcome name =
    Some (record { collection = number; collection_name = title; pattern = pattern; name = name; outcome = outcome; way = None })
entry_for number _ pattern outcome name = None

-- the pattern that a row reports, from that row alone, in the collection that `heading` opens and that has this number
abbrev pub entry_of_row : ℕ → Row → Row → Option Entry
entry_of_row number heading (Line collection pattern outcome name) = entry_for number heading pattern outcome name
entry_of_row number heading _ = None

-- the number of a pattern's engines
abbrev pub engines_in : Outcome → ℕ
engines_in outcome = number_in (value_at label.Engines (said outcome).fields)

-- the motion of the engine that a row reports
abbrev pub way_in : Row → Option EngineWay
way_in (Engine collection pattern number period dx dy count) = Some (record { period = period; dx = dx; dy = dy })
way_in _ = None

-- the motion of the engine that the first of these rows reports
abbrev pub first_way : List Row → Option EngineWay
first_way [] = None
first_way (row ∷ rows) = way_in row

-- the motion of the only engine of a pattern whose line these rows follow
abbrev pub only_way : Outcome → List Row → Option EngineWay
only_way outcome rows = if engines_in outcome == 1 then first_way rows else None

-- a pattern with the motion of its engine, from the rows after its line
abbrev pub with_way : Entry → List Row → Entry
with_way entry rows = record entry { way = only_way entry.outcome rows }

-- the patterns of these rows, in the collection that `heading` opens and that has this number
abbrev pub entries_under : ℕ → Row → List Row → List Entry
entries_under number heading [] = []
entries_under number heading (row ∷ rows) =
    cons_option (option_map (λ entry. with_way entry rows) (entry_of_row number heading row)) (entries_under number heading rows)

-- the patterns of a collection's rows, the first of which opens it
abbrev pub section_entries : ℕ → List Row → List Entry
section_entries number [] = []
section_entries number (heading ∷ rows) = entries_under number heading rows

-- the patterns of each collection's rows, numbered from `number` on
abbrev pub all_entries : ℕ → List (List Row) → List Entry
all_entries number sections = flat_map (λ s. section_entries s.0 s.1) (enumerate_from number sections)

-- The patterns of reports, collection by collection. Collections are numbered from 1, and from one report to the next the
-- numbers go on.
abbrev pub entries_of : List Row → List Entry
entries_of rows = flat_map (λ s. section_entries s.0 s.1) (enumerate_from 1 (collections_of [] rows))
