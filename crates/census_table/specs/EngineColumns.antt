-- The columns of tables of engines.
use Rattle.std.specs.Prelude.{ℕ, Bool, true, false, filter, None, List, [], ◌∷◌, codes, map}
use Rattle.census_rows.specs.declared.kinds.Label.TheVariants as label
use Rattle.census_table.specs.Called.{Names, called}
use Rattle.census_table.specs.Columns.{field_content}
use Rattle.census_table.specs.Contents.{Content, Member, count, hex, shift, text}
use Rattle.census_table.specs.declared.engine.Emitted.{Emitted}
use Rattle.census_table.specs.declared.engine.EngineKind.{EngineKind}
use Rattle.census_table.specs.declared.engine.EngineKind.TheVariants.{Gun, Rake, Puffer}
use Rattle.census_table.specs.declared.engine_column.EngineColumn.{EngineColumn}
use Rattle.census_table.specs.declared.engine_column.EngineColumn.TheVariants.{Collection, CollectionName, CollectionNameHex, Pattern, Name, NameHex, Rule, Engine, Kind, Period, Dx, Dy, Count, Emits, CommonName, EmitsCount}

-- the columns of comma-separated values, in their order
abbrev pub engine_columns : List EngineColumn
engine_columns = Collection ∷ CollectionName ∷ Pattern ∷ Name ∷ Rule ∷ Engine ∷ Kind ∷ Period ∷ Dx ∷ Dy ∷ Count ∷ Emits ∷ CommonName ∷ EmitsCount ∷ []

-- the columns in JSON, in the order of their names
abbrev pub engine_columns_in_json : List EngineColumn
engine_columns_in_json =
    Collection ∷ CollectionName ∷ CollectionNameHex ∷ CommonName ∷ Count ∷ Dx ∷ Dy ∷ Emits ∷ EmitsCount ∷ Engine ∷ Kind ∷ Name ∷ NameHex ∷ Pattern ∷ Period ∷ Rule ∷ []

abbrev pub word_of : EngineKind → List ℕ
word_of Gun = codes "gun"
word_of Rake = codes "rake"
word_of Puffer = codes "puffer"

-- the name of a column, and the content of the row of emitted objects in it
abbrev pub column_means : EngineColumn → List ℕ × (Names → Emitted → Content)
column_means Collection = (codes "collection", λ names e. count e.pattern.collection)
column_means CollectionName = (codes "collection_name", λ names e. text e.pattern.collection_name.now)
column_means CollectionNameHex = (codes "collection_name_hex", λ names e. hex e.pattern.collection_name.now)
column_means Pattern = (codes "pattern", λ names e. count e.pattern.pattern)
column_means Name = (codes "name", λ names e. text e.pattern.name.now)
column_means NameHex = (codes "name_hex", λ names e. hex e.pattern.name.now)
column_means Rule = (codes "rule", λ names e. field_content e.pattern.outcome label.Rule)
column_means Engine = (codes "engine", λ names e. count e.engine.number)
column_means Kind = (codes "kind", λ names e. text (word_of e.engine.kind))
column_means Period = (codes "period", λ names e. count e.engine.period)
column_means Dx = (codes "dx", λ names e. shift e.engine.dx)
column_means Dy = (codes "dy", λ names e. shift e.engine.dy)
column_means Count = (codes "count", λ names e. count e.engine.count)
column_means Emits = (codes "emits", λ names e. text e.code.now)
column_means CommonName = (codes "common_name", λ names e. called names e.code.now)
column_means EmitsCount = (codes "emits_count", λ names e. count e.count)

abbrev pub heading_of : EngineColumn → List ℕ
heading_of column = (column_means column).0

abbrev pub content_of_emitted : Names → EngineColumn → Emitted → Content
content_of_emitted names column emitted = (column_means column).1 names emitted

-- a table without names has no column for them
abbrev pub is_headed : Names → EngineColumn → Bool
is_headed None CommonName = false
is_headed names column = true

-- the row of emitted objects
abbrev pub emitted_row : Names → List EngineColumn → Emitted → List Member
emitted_row names columns emitted = map (λ column. record { name = heading_of column; content = content_of_emitted names column emitted }) (filter (is_headed names) columns)
