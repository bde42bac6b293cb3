-- Tables: their rows, the content of each row in each column, and their text.
use Rattle.std.specs.Prelude.{◌≡◌, ℕ, zero, suc, ◌+◌, List, [], ◌∷◌, ◌++◌, codes, drop, filter, length, map}
use Rattle.std.specs.List.{flat_map}
use Rattle.csv.specs.Writing.{default_writer, row_text}
use Rattle.census_rows.specs.Kinds.{said}
use Rattle.census_rows.specs.declared.row.Row.{Row}
use Rattle.census_table.specs.Called.{Names}
use Rattle.census_table.specs.Columns.{columns, entry_row, first_columns, is_shown, last_columns, middle_columns, name_of}
use Rattle.census_table.specs.Contents.{Member, content_bytes}
use Rattle.census_table.specs.EngineColumns.{emitted_row, engine_columns, engine_columns_in_json, heading_of, is_headed}
use Rattle.census_table.specs.Json.{json_line}
use Rattle.census_table.specs.Kinds.{AreKinds, left_in, total_of}
use Rattle.census_table.specs.ObjectColumns.{code_columns, code_columns_in_json, is_there, object_row, part_columns, part_columns_in_json, title_of}
use Rattle.census_table.specs.Objects.{objects_of}
use Rattle.census_table.specs.Things.{all_things, engines_behind, kind_thing, parts_behind, things_of}
use Rattle.census_table.specs.declared.object.Object.{Object}
use Rattle.census_table.specs.declared.subject.Subject.{Subject}
use Rattle.census_table.specs.declared.subject.Subject.TheVariants.{Patterns, Parts, Engines, Codes}
use Rattle.census_table.specs.declared.subject.Table.{Table}
use Rattle.census_table.specs.declared.subject.Table.TheVariants as table
use Rattle.census_table.specs.declared.table.Format.{Format}
use Rattle.census_table.specs.declared.table.Format.TheVariants.{Csv, Json}
use Rattle.census_table.specs.declared.thing.Item.TheVariants as item
use Rattle.census_table.specs.declared.thing.Thing.{Thing}
use Rattle.census_table.specs.declared.thing.Thing.TheVariants.{Pattern, Part, Emitted, Kind}

-- # The rows of a table

-- a row for each of these things
pub record Listing : Type 0 where
  pub subject : Subject
  pub things : List Thing

-- each pattern of reports, each `part` row, each `emits` row, or each rule and code, which is counted; of codes there may be only
-- those without a name
abbrev pub AreThingsOf : Subject → Names → List Row → List Thing → Type 0
AreThingsOf Patterns names rows things = things ≡ things_of item.Pattern rows
AreThingsOf Parts names rows things = things ≡ things_of item.Part rows
AreThingsOf Engines names rows things = things ≡ things_of item.Emitted rows
AreThingsOf (Codes choice) names rows things =
    (kinds : List Object) × AreKinds choice.rare (objects_of rows) kinds
    × (things ≡ map (kind_thing (total_of kinds)) (left_in names choice.unnamed kinds))

abbrev pub IsListingOf : Subject → Names → List Row → Listing → Type 0
IsListingOf subject names rows listing = (listing.subject ≡ subject) × AreThingsOf subject names rows listing.things

-- # The content of a row

-- the names of the columns; without names of codes there is no column for these
abbrev pub titles_of : Names → Subject → List (List ℕ)
titles_of names Patterns = map name_of (filter (is_shown names) columns)
titles_of names Parts = map title_of (filter (is_there names) part_columns)
titles_of names Engines = map heading_of (filter (is_headed names) engine_columns)
titles_of names (Codes choice) = map title_of (filter (is_there names) code_columns)

-- a row; in JSON its columns are in the order of their names, and a pattern has its engines and its parts as lists
abbrev pub thing_row : Names → Format → Thing → List Member
thing_row names (Csv safe) (Pattern entry rows) = entry_row names columns entry
thing_row names (Csv safe) (Part object) = object_row names part_columns object
thing_row names (Csv safe) (Emitted emitted) = emitted_row names engine_columns emitted
thing_row names (Csv safe) (Kind object) = object_row names code_columns object
thing_row names Json (Pattern entry rows) =
    entry_row names first_columns entry
    ++ record { name = codes "engines"; content = engines_behind (said entry.outcome).behind rows }
    ∷ (entry_row names middle_columns entry
    ++ record { name = codes "parts"; content = parts_behind (said entry.outcome).behind rows }
    ∷ entry_row names last_columns entry)
thing_row names Json (Part object) = object_row names part_columns_in_json object
thing_row names Json (Emitted emitted) = emitted_row names engine_columns_in_json emitted
thing_row names Json (Kind object) = object_row names code_columns_in_json object

-- # The text of a table

-- the record of a row, as the crate `csv` writes it by default, or its object in JSON
abbrev pub row_line : Format → List Member → List ℕ
row_line (Csv safe) row = row_text default_writer (map (λ member. content_bytes safe member.content) row)
row_line Json row = json_line row

-- the text of a table before its rows: a record of the columns' names, but nothing in JSON
abbrev pub head_text : Format → List (List ℕ) → List ℕ
head_text (Csv safe) titles = row_text default_writer titles
head_text Json titles = []

-- the rows of these things
abbrev pub things_text : Names → Format → List Thing → List ℕ
things_text names format things = flat_map (λ thing. row_line format (thing_row names format thing)) things

-- the whole table
abbrev pub listing_text : Format → Names → Listing → List ℕ
listing_text format names listing = head_text format (titles_of names listing.subject) ++ things_text names format listing.things

-- # On the way

-- the number of a table's collections, or 1 where it has kinds
abbrev pub table_size : Table → ℕ
table_size (table.Patterns sections) = length sections
table_size (table.Parts sections) = length sections
table_size (table.Engines sections) = length sections
table_size (table.Codes choice kinds total) = 1

-- the things of a table from the collection at an index on
abbrev pub table_from : Table → ℕ → List Thing
table_from (table.Patterns sections) index = all_things item.Pattern (index + 1) (drop index sections)
table_from (table.Parts sections) index = all_things item.Part (index + 1) (drop index sections)
table_from (table.Engines sections) index = all_things item.Emitted (index + 1) (drop index sections)
table_from (table.Codes choice kinds total) zero = map (kind_thing total) kinds
table_from (table.Codes choice kinds total) (suc index) = []

abbrev pub subject_of : Table → Subject
subject_of (table.Patterns sections) = Patterns
subject_of (table.Parts sections) = Parts
subject_of (table.Engines sections) = Engines
subject_of (table.Codes choice kinds total) = Codes choice

abbrev pub listing_of : Table → Listing
listing_of table = record { subject = subject_of table; things = table_from table 0 }
