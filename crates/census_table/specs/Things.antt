-- The things that tables have rows for.
use Rattle.std.specs.Prelude.{ℕ, Bool, if◌then◌else◌, Option, Some, None, List, [], ◌∷◌, drop, length, map}
use Rattle.std.specs.List.{cons_option, enumerate_from, filter_map, flat_map}
use Rattle.std.specs.Option.{option_map}
use Rattle.census_rows.specs.Kinds.{said}
use Rattle.census_rows.specs.declared.kinds.Behind.{Behind}
use Rattle.census_rows.specs.declared.kinds.Behind.TheVariants as behind
use Rattle.census_rows.specs.declared.row.Row.{Row}
use Rattle.census_readback.specs.Following.{rows_behind}
use Rattle.census_readback.specs.Grouped.{collections_of}
use Rattle.census_readback.specs.Sections.{same_behind}
use Rattle.census_table.specs.Contents.{Content, engines, nothing, parts}
use Rattle.census_table.specs.Emitting.{emitted_of, last_after, no_last}
use Rattle.census_table.specs.Entries.{entry_of_row, with_way}
use Rattle.census_table.specs.Kinds.{with_share}
use Rattle.census_table.specs.Lists.{all_engines, portion_of}
use Rattle.census_table.specs.Objects.{object_of_row}
use Rattle.census_table.specs.declared.engine.Emitted.{Emitted}
use Rattle.census_table.specs.declared.engine.Last.{Last}
use Rattle.census_table.specs.declared.entry.Entry.{Entry}
use Rattle.census_table.specs.declared.lines.Lines.{Lines}
use Rattle.census_table.specs.declared.lines.Lines.TheVariants.{Rows, Kinds}
use Rattle.census_table.specs.declared.object.Object.{Object}
use Rattle.census_table.specs.declared.thing.Item.{Item}
use Rattle.census_table.specs.declared.thing.Item.TheVariants as item
use Rattle.census_table.specs.declared.thing.Thing.{Thing}
use Rattle.census_table.specs.declared.thing.Thing.TheVariants as thing

-- true where the object is one of several that a pattern has fallen apart into
abbrev pub is_part : Object → Bool
is_part o = same_behind (said o.first.outcome).behind behind.Parts

abbrev pub part_in : Option Object → Option Thing
part_in None = None
part_in (Some object) = if is_part object then Some (thing.Part object) else None

abbrev pub emitted_in : Option Emitted → Option Thing
emitted_in emitted = option_map (λ e. thing.Emitted e) emitted

-- the thing that a row adds to a table of patterns, of parts or of engines, where `own` is the pattern of its line, if it is
-- one, and `last` is what was reported last up to it
abbrev pub thing_of : Item → Option Entry → Last → Row → List Row → Option Thing
thing_of item.Pattern own last row rows = option_map (λ entry. thing.Pattern (with_way entry rows) rows) own
thing_of item.Part own last row rows = part_in (object_of_row last.pattern row)
thing_of item.Emitted own last row rows = emitted_in (emitted_of last row)

-- the things that these rows add, in the collection that `heading` opens and that has this number, where `last` is what was
-- reported last before them
abbrev pub things_under : Item → ℕ → Row → Last → List Row → List Thing
things_under item number heading last [] = []
things_under item number heading last (row ∷ rows) =
    let next = last_after number heading last row rows in
    cons_option (thing_of item (entry_of_row number heading row) next row rows) (things_under item number heading next rows)

-- the things that a collection's rows add, the first of which opens it
abbrev pub section_things : Item → ℕ → List Row → List Thing
section_things item number [] = []
section_things item number (heading ∷ rows) = things_under item number heading no_last rows

-- the things that each collection's rows add, numbered from `number` on
abbrev pub all_things : Item → ℕ → List (List Row) → List Thing
all_things item number sections = flat_map (λ s. section_things item s.0 s.1) (enumerate_from number sections)

-- The things that reports add: each pattern with the rows after its line, each `part` row, or each `emits` row with the engines
-- before it. Collections are numbered from 1, and from one report to the next the numbers go on.
abbrev pub things_of : Item → List Row → List Thing
things_of item rows = all_things item 1 (collections_of [] rows)

-- # Lists in the row of a pattern

-- the engines that the first of these rows report, where such rows follow a line
abbrev pub engines_behind : Behind → List Row → Content
engines_behind behind.Engines rows = engines (all_engines (rows_behind behind.Engines rows))
engines_behind _ rows = nothing

-- the parts that the first of these rows report, where such rows follow a line
abbrev pub parts_behind : Behind → List Row → Content
parts_behind behind.Parts rows = parts (filter_map portion_of (rows_behind behind.Parts rows))
parts_behind _ rows = nothing

-- # On the way

-- the number of rows or kinds
abbrev pub lines_size : Lines → ℕ
lines_size (Rows item number heading rows) = length rows
lines_size (Kinds kinds total) = length kinds.now

-- a kind of a table, with its share of all objects
abbrev pub kind_thing : ℕ → Object → Thing
kind_thing total kind = thing.Kind (with_share total kind)

-- the things that they add from an index on, where `last` is what was reported last before it
abbrev pub things_from : Lines → Last → ℕ → List Thing
things_from (Rows item number heading rows) last index = things_under item number heading last (drop index rows)
things_from (Kinds kinds total) last index = map (kind_thing total) (drop index kinds.now)
