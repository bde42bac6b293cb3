-- Rows as JSON objects, each on a line of its own: strings are as `serde_json` writes them.
use Rattle.std.specs.Prelude.{ℕ, ℤ, Bool, true, false, Option, Some, None, List, [], ◌∷◌, ◌++◌, codes, decimal}
use Rattle.std.specs.Fmt.{signed_decimal}
use Rattle.std.specs.List.{filter_map}
use Rattle.std.specs.Option.{option_map_or}
use Rattle.std.specs.Str.Lossy.{utf8_lossy}
use Rattle.serde_json.specs.Data.{string}
use Rattle.serde_json.specs.Written.{comma_if, compact_text}
use Rattle.census_facts.specs.Json.Lines.{with_line_ends_escaped}
use Rattle.census_table.specs.Called.{Names}
use Rattle.census_table.specs.Columns.{entry_row, first_columns, last_columns, middle_columns}
use Rattle.census_table.specs.Contents.{Content, Member, count, engines, hex, hex_of, nothing, parts, share, share_bytes, shift, text}
use Rattle.census_table.specs.Lists.{Engines, portion_of}
use Rattle.census_rows.specs.declared.row.Row.{Row}
use Rattle.census_table.specs.declared.entry.Entry.{Entry}
use Rattle.census_table.specs.declared.lists.Portion.{Portion}

abbrev pub string_json : List ℕ → List ℕ
string_json characters = with_line_ends_escaped (compact_text (string characters))

-- bytes as a string; those that are not UTF-8 become U+FFFD
abbrev pub text_json : List ℕ → List ℕ
text_json bytes = string_json (utf8_lossy bytes)

-- # Items, with commas between them

-- a thing, if there is one, as an item that comes after others or as the first one
abbrev pub item_text : {A : Type 0} → (A → List ℕ) → Bool → Option A → List ℕ
item_text text_of later None = []
item_text text_of later (Some x) = comma_if later ++ text_of x

-- true where the next item has one before it
abbrev pub is_later : {A : Type 0} → Bool → Option A → Bool
is_later later None = later
is_later later (Some x) = true

-- things, as items that come after others or as the first ones
abbrev pub items_text : {A : Type 0} → (A → List ℕ) → Bool → List A → List ℕ
items_text text_of later [] = []
items_text text_of later (x ∷ xs) = (comma_if later ++ text_of x) ++ items_text text_of true xs

-- # Contents

-- a number of objects with a code
abbrev pub portion_json : Portion → List ℕ
portion_json portion = codes "{\"code\":" ++ (text_json portion.code.now ++ (codes ",\"count\":" ++ (decimal portion.count ++ codes "}")))

abbrev pub pair_json : ℤ → ℤ → List ℕ
pair_json x y = signed_decimal x ++ (codes "," ++ signed_decimal y)

abbrev pub displacement_json : ℤ → ℤ → List ℕ
displacement_json dx dy = codes ",\"displacement\":[" ++ (pair_json dx dy ++ codes "],\"emits\":[")

-- the object of equal engines: its text before what they emit, its text after that, and all of it
abbrev pub engine_head : ℤ → ℤ → ℕ → List ℕ
engine_head dx dy number =
    codes "{\"count\":" ++ (decimal number ++ displacement_json dx dy)

abbrev pub engine_end : ℕ → List ℕ
engine_end period = codes "],\"period\":" ++ (decimal period ++ codes "}")

abbrev pub engine_json : Engines → List ℕ
engine_json told = engine_head told.dx told.dy told.count ++ (items_text portion_json false told.emits ++ engine_end told.period)

-- the same as an item, where these rows report what they emit
abbrev pub kind_text : ℕ → ℤ → ℤ → ℕ → List Row → Bool → List ℕ
kind_text period dx dy number emits later =
    comma_if later ++ engine_json (record { count = number; dx = dx; dy = dy; emits = filter_map portion_of emits; period = period })

-- the content of a row in one column: `null` for nothing
abbrev pub content_json : Content → List ℕ
content_json nothing = codes "null"
content_json (count n) = decimal n
content_json (shift z) = signed_decimal z
content_json (share n) = share_bytes n
content_json (text bytes) = text_json bytes
content_json (hex bytes) = option_map_or string_json (hex_of bytes) (codes "null")
content_json (engines list) = codes "[" ++ (items_text engine_json false list ++ codes "]")
content_json (parts list) = codes "[" ++ (items_text portion_json false list ++ codes "]")

-- # Objects

abbrev pub member_json : Member → List ℕ
member_json member = codes "\"" ++ (member.name ++ (codes "\":" ++ content_json member.content))

-- the object of a row, with a member for each of its columns
abbrev pub json_line : List Member → List ℕ
json_line row = codes "{" ++ (items_text member_json false row ++ codes "}\n")

-- the text of the object of a pattern before the engines, between them and the parts, and after the parts
abbrev pub head_of : Names → Entry → List ℕ
head_of names entry = codes "{" ++ (items_text member_json false (entry_row names first_columns entry) ++ codes ",\"engines\":")

abbrev pub middle_of : Names → Entry → List ℕ
middle_of names entry = items_text member_json true (entry_row names middle_columns entry) ++ codes ",\"parts\":"

abbrev pub end_of : Names → Entry → List ℕ
end_of names entry = items_text member_json true (entry_row names last_columns entry) ++ codes "}\n"
