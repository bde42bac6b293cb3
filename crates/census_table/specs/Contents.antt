-- The content of a row in one column.
use Rattle.std.specs.Prelude.{◌≡◌, ℕ, ℤ, ◌/◌, ◌%◌, Bool, true, false, ◌&&◌, ◌==◌, List, [], ◌∷◌, ◌++◌, Option, Some, None, codes, unwrap_or, if◌then◌else◌, decimal, map}
use Rattle.std.specs.Fmt.{signed_decimal}
use Rattle.std.specs.List.{list_any}
use Rattle.std.specs.Str.{is_utf8}
use Rattle.std.specs.Str.Lossy.{utf8_lossy}
use Rattle.hex.specs.Hex.{encode_lower}
use Rattle.census_faults.specs.Rle.Reported.{fault_words}
use Rattle.census_table.specs.Lists.{Engines}
use Rattle.census_table.specs.declared.cell.Cell.{Cell}
use Rattle.census_table.specs.declared.cell.Cell.TheVariants.{Empty, Count, Shift, Share, Text, Hex, Fault}
use Rattle.census_table.specs.declared.cell.Field.{Field}
use Rattle.census_table.specs.declared.lists.Portion.{Portion}

-- nothing, a number, a signed number, a part of a whole in millionths, a text, the bytes of a text in hex where it isn't UTF-8,
-- or a list of engines or parts
pub data Content : Type 0 where
  nothing : Content
  count : ℕ → Content
  shift : ℤ → Content
  share : ℕ → Content
  text : List ℕ → Content
  hex : List ℕ → Content
  engines : List Engines → Content
  parts : List Portion → Content

abbrev pub content_of : Cell → Content
content_of Empty = nothing
content_of (Count n) = count n
content_of (Shift z) = shift z
content_of (Share n) = share n
content_of (Text bytes) = text bytes.now
content_of (Hex bytes) = hex bytes.now
content_of (Fault n) = text (fault_words n)

-- the name of a column, and the content of a row in it
pub record Member : Type 0 where
  pub name : List ℕ
  pub content : Content

abbrev pub member_of : Field → Member
member_of field = record { name = field.name.now; content = content_of field.cell }

abbrev pub row_of : List Field → List Member
row_of fields = map member_of fields

-- the bytes in hex, where they aren't UTF-8
abbrev pub hex_of : List ℕ → Option (List ℕ)
hex_of bytes = if is_utf8 bytes then None else Some (encode_lower bytes)

-- true where a spreadsheet may take a text for a formula, by its first byte
abbrev pub begins_formula : List ℕ → Bool
begins_formula [] = false
begins_formula (byte ∷ bytes) = list_any (λ sign. sign == byte) (codes "=+-@\t\r")

-- a text, with an apostrophe before it if it is to be safe and a spreadsheet may take it for a formula
abbrev pub text_bytes : Bool → List ℕ → List ℕ
text_bytes safe bytes = if safe && begins_formula bytes then 39 ∷ bytes else bytes

-- a number of millionths, with six digits after the point
abbrev pub share_bytes : ℕ → List ℕ
share_bytes n =
    decimal (n / 1000000) ++ (codes "." ++ (decimal (n / 100000 % 10) ++ (decimal (n / 10000 % 10) ++ (decimal (n / 1000 % 10) ++ (decimal (n / 100 % 10) ++ (decimal (n / 10 % 10) ++ decimal (n % 10)))))))

-- the text of a field, where texts are to be `safe` or not; lists occur only in JSON
abbrev pub content_bytes : Bool → Content → List ℕ
content_bytes safe (count n) = decimal n
content_bytes safe (shift z) = signed_decimal z
content_bytes safe (share n) = share_bytes n
content_bytes safe (text bytes) = text_bytes safe (utf8_lossy bytes)
content_bytes safe (hex bytes) = unwrap_or (hex_of bytes) []
content_bytes safe _ = []

-- no text of a safe field begins as a formula does
abbrev pub TextsAreSafe : Type 0
TextsAreSafe = (bytes : List ℕ) → begins_formula (content_bytes true (text bytes)) ≡ false
