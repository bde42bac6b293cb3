-- The columns of a table of patterns.
use Rattle.std.specs.Prelude.{ℕ, Bool, true, false, filter, Option, Some, None, List, [], ◌∷◌, ◌++◌, codes, map}
use Rattle.std.specs.Option.{option_map_or}
use Rattle.census_rows.specs.declared.kinds.Label.{Label}
use Rattle.census_rows.specs.declared.kinds.Label.TheVariants as label
use Rattle.census_rows.specs.declared.kinds.Value.{Value}
use Rattle.census_rows.specs.declared.kinds.Value.TheVariants.{Number, Signed, Text}
use Rattle.census_rows.specs.declared.row.Outcome.{Outcome}
use Rattle.census_rows.specs.Kinds.{said, value_at}
use Rattle.census_faults.specs.Rle.Reported.{fault_words}
use Rattle.census_table.specs.declared.column.Column.{Column}
use Rattle.census_table.specs.declared.column.Column.TheVariants as column
use Rattle.census_table.specs.declared.entry.EngineWay.{EngineWay}
use Rattle.census_table.specs.declared.entry.Entry.{Entry}
use Rattle.census_table.specs.Called.{Names, called}
use Rattle.census_table.specs.Contents.{Content, Member, nothing, count, shift, text, hex}

-- all columns, in their order
abbrev pub columns : List Column
columns = column.Collection ∷ column.CollectionName ∷ column.Pattern ∷ column.Name ∷ column.Status ∷ column.Rule ∷ column.Population ∷ column.Onset ∷ column.Period ∷ column.Dx ∷ column.Dy ∷ column.Code ∷ column.CommonName ∷ column.Fault ∷ column.CollectionNameHex ∷ column.NameHex ∷ column.Objects ∷ column.Generation ∷ column.Engines ∷ column.FaultText ∷ []

-- the columns whose names come before `engines`, between it and `parts`, and after `parts`, in the order of their names
abbrev pub first_columns : List Column
first_columns = column.Code ∷ column.Collection ∷ column.CollectionName ∷ column.CollectionNameHex ∷ column.CommonName ∷ column.Dx ∷ column.Dy ∷ []

abbrev pub middle_columns : List Column
middle_columns = column.Fault ∷ column.FaultText ∷ column.Generation ∷ column.Name ∷ column.NameHex ∷ column.Objects ∷ column.Onset ∷ []

abbrev pub last_columns : List Column
last_columns = column.Pattern ∷ column.Period ∷ column.Population ∷ column.Rule ∷ column.Status ∷ []

abbrev pub value_content : Value → Content
value_content (Number n) = count n
value_content (Signed z) = shift z
value_content (Text bytes) = text bytes.now

-- the content of the field with a label
abbrev pub field_content : Outcome → Label → Content
field_content outcome label = option_map_or value_content (value_at label (said outcome).fields) nothing

-- the content from the motion of the pattern's only engine, or else from the field with a label
abbrev pub way_content : (EngineWay → Content) → Label → Entry → Content
way_content content label entry = option_map_or content entry.way (field_content entry.outcome label)

abbrev pub fault_content : Option Value → Content
fault_content (Some (Number n)) = text (fault_words n)
fault_content _ = nothing

-- the content for the name of a code, where there is one
abbrev pub called_content : Names → Option Value → Content
called_content names (Some (Text code)) = called names code.now
called_content names _ = nothing

-- the name of a column, and the content of a pattern's row in it
abbrev pub column_means : Column → List ℕ × (Names → Entry → Content)
column_means column.Collection = (codes "collection", λ names entry. count entry.collection)
column_means column.CollectionName = (codes "collection_name", λ names entry. text entry.collection_name.now)
column_means column.Pattern = (codes "pattern", λ names entry. count entry.pattern)
column_means column.Name = (codes "name", λ names entry. text entry.name.now)
column_means column.Status = (codes "status", λ names entry. text (said entry.outcome).word)
column_means column.Rule = (codes "rule", λ names entry. field_content entry.outcome label.Rule)
column_means column.Population = (codes "population", λ names entry. field_content entry.outcome label.Population)
column_means column.Onset = (codes "onset", λ names entry. field_content entry.outcome label.Onset)
column_means column.Period = (codes "period", λ names entry. way_content (λ way. count way.period) label.Period entry)
column_means column.Dx = (codes "dx", λ names entry. way_content (λ way. shift way.dx) label.Dx entry)
column_means column.Dy = (codes "dy", λ names entry. way_content (λ way. shift way.dy) label.Dy entry)
column_means column.Code = (codes "code", λ names entry. field_content entry.outcome label.Code)
column_means column.CommonName = (codes "common_name", λ names entry. called_content names (value_at label.Code (said entry.outcome).fields))
column_means column.Fault = (codes "fault", λ names entry. field_content entry.outcome label.Fault)
column_means column.CollectionNameHex = (codes "collection_name_hex", λ names entry. hex entry.collection_name.now)
column_means column.NameHex = (codes "name_hex", λ names entry. hex entry.name.now)
column_means column.Objects = (codes "objects", λ names entry. field_content entry.outcome label.Objects)
column_means column.Generation = (codes "generation", λ names entry. field_content entry.outcome label.Generation)
column_means column.Engines = (codes "engines", λ names entry. field_content entry.outcome label.Engines)
column_means column.FaultText = (codes "fault_text", λ names entry. fault_content (value_at label.Fault (said entry.outcome).fields))

abbrev pub name_of : Column → List ℕ
name_of column = (column_means column).0

abbrev pub content_in_column : Names → Column → Entry → Content
content_in_column names column entry = (column_means column).1 names entry

-- a table without names has no column for them
abbrev pub is_shown : Names → Column → Bool
is_shown None column.CommonName = false
is_shown names column = true

-- the row of a pattern in these columns
abbrev pub entry_row : Names → List Column → Entry → List Member
entry_row names columns entry = map (λ column. record { name = name_of column; content = content_in_column names column entry }) (filter (is_shown names) columns)
