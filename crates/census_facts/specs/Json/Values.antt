-- The JSON of objects and of engines.
use Rattle.std.specs.Prelude.{ℕ, ℤ, List, Option, Some, None, codes}
use Rattle.std.specs.Str.Lossy.{utf8_lossy}
use Rattle.serde_json.specs.Data.{Data, Members, array, item, no_items, no_members, number, object, put, string, unsigned}
use Rattle.serde_json.specs.Find.{of_integer}
use Rattle.serde_json.specs.View.{items_of}

-- members with that of a text, if there is one; bytes of it that are not UTF-8 become U+FFFD
abbrev pub with_text : List ℕ → Option (List ℕ) → Members → Members
with_text name None members = members
with_text name (Some text) members = put name (string (utf8_lossy text)) members

-- `count` objects with a code, and the object's name, if it has one
abbrev pub counted_data : List ℕ → ℕ → Option (List ℕ) → Data
counted_data code count name =
    object (with_text (codes "name") name
    (put (codes "count") (number (unsigned count)) (put (codes "code") (string (utf8_lossy code)) no_members)))

-- a displacement: the number of cells to the right, and the number of cells down
abbrev pub displacement_data : ℤ → ℤ → Data
displacement_data dx dy = array (item (number (of_integer dx)) (item (number (of_integer dy)) no_items))

-- engines with the same description: their period, the displacement of each in a period, their number, and the objects that
-- each emits in a period
abbrev pub engines_data : ℕ → ℤ → ℤ → ℕ → List Data → Data
engines_data period dx dy count emits =
    object (put (codes "period") (number (unsigned period)) (put (codes "emits") (array (items_of emits))
    (put (codes "displacement") (displacement_data dx dy) (put (codes "count") (number (unsigned count)) no_members))))
