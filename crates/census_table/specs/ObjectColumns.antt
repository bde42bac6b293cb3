-- The columns of tables of objects.
use Rattle.std.specs.Prelude.{ℕ, Bool, true, false, filter, None, List, [], ◌∷◌, codes, map}
use Rattle.census_table.specs.Called.{Names, called}
use Rattle.census_table.specs.Contents.{Content, Member, count, share, text}
use Rattle.census_table.specs.declared.object.Object.{Object}
use Rattle.census_table.specs.declared.object_column.ObjectColumn.{ObjectColumn}
use Rattle.census_table.specs.declared.object_column.ObjectColumn.TheVariants.{Collection, CollectionName, Pattern, Name, Rule, Code, CommonName, Count, Patterns, FirstCollectionName, FirstName, Share}

-- the columns of a table of parts, in their order
abbrev pub part_columns : List ObjectColumn
part_columns = Collection ∷ CollectionName ∷ Pattern ∷ Name ∷ Rule ∷ Code ∷ CommonName ∷ Count ∷ []

-- the columns of a table of codes, in their order
abbrev pub code_columns : List ObjectColumn
code_columns = Rule ∷ Code ∷ CommonName ∷ Count ∷ Patterns ∷ FirstCollectionName ∷ FirstName ∷ Share ∷ []

-- the columns in JSON, in the order of their names
abbrev pub part_columns_in_json : List ObjectColumn
part_columns_in_json = Code ∷ Collection ∷ CollectionName ∷ CommonName ∷ Count ∷ Name ∷ Pattern ∷ Rule ∷ []

abbrev pub code_columns_in_json : List ObjectColumn
code_columns_in_json = Code ∷ CommonName ∷ Count ∷ FirstCollectionName ∷ FirstName ∷ Patterns ∷ Rule ∷ Share ∷ []

-- the name of a column, and the content of an object's row in it
abbrev pub column_means : ObjectColumn → List ℕ × (Names → Object → Content)
column_means Collection = (codes "collection", λ names object. count object.first.collection)
column_means CollectionName = (codes "collection_name", λ names object. text object.first.collection_name.now)
column_means Pattern = (codes "pattern", λ names object. count object.first.pattern)
column_means Name = (codes "name", λ names object. text object.first.name.now)
column_means Rule = (codes "rule", λ names object. text object.rule.now)
column_means Code = (codes "code", λ names object. text object.code.now)
column_means CommonName = (codes "common_name", λ names object. called names object.code.now)
column_means Count = (codes "count", λ names object. count object.count)
column_means Patterns = (codes "patterns", λ names object. count object.patterns)
column_means FirstCollectionName = (codes "first_collection_name", λ names object. text object.first.collection_name.now)
column_means FirstName = (codes "first_name", λ names object. text object.first.name.now)
column_means Share = (codes "share", λ names object. share object.share)

abbrev pub title_of : ObjectColumn → List ℕ
title_of column = (column_means column).0

abbrev pub content_of_object : Names → ObjectColumn → Object → Content
content_of_object names column object = (column_means column).1 names object

-- a table without names has no column for them
abbrev pub is_there : Names → ObjectColumn → Bool
is_there None CommonName = false
is_there names column = true

-- the row of an object
abbrev pub object_row : Names → List ObjectColumn → Object → List Member
object_row names columns object = map (λ column. record { name = title_of column; content = content_of_object names column object }) (filter (is_there names) columns)
