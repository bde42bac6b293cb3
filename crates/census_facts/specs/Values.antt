-- Things as members of a JSON object.
use Rattle.std.specs.Prelude.{ℕ, List, [], ◌∷◌, map}
use Rattle.std.specs.Str.Lossy.{utf8_lossy}
use Rattle.serde_json.specs.Data.{Data, Members, array, item, no_items, no_members, number, object, put, string, unsigned}
use Rattle.serde_json.specs.View.{items_of}
use Rattle.census_facts.specs.Json.Lines.{data_line}
use Rattle.census_facts.specs.Json.Values.{counted_data, displacement_data, engines_data}
use Rattle.life_answer.specs.declared.part.Part.{Part}
use Rattle.life_answer.specs.declared.tale.Engines.{Engines}
use Rattle.census_facts.specs.Names.{Entry, name_in}
use Rattle.census_facts.specs.Facts.{Content, Thing}
use Rattle.census_facts.specs.Facts as told

-- `part.count` parts with one code, and its name, if it has one
abbrev pub part_data : List Entry → Part → Data
part_data names part = counted_data part.code part.count (name_in names part.code)

abbrev pub kind_data : List Entry → Engines → Data
kind_data names kind =
    engines_data kind.tale.period kind.tale.dx kind.tale.dy kind.count (map (part_data names) kind.tale.emits)

abbrev pub size_data : ℕ → ℕ → Data
size_data width height = array (item (number (unsigned width)) (item (number (unsigned height)) no_items))

-- the value of a member
abbrev pub content_data : List Entry → Content → Data
content_data names (told.number n) = number (unsigned n)
content_data names (told.size width height) = size_data width height
content_data names (told.moves dx dy) = displacement_data dx dy
content_data names (told.text bytes) = string (utf8_lossy bytes)
content_data names (told.parts list) = array (items_of (map (part_data names) list))
content_data names (told.engines list) = array (items_of (map (kind_data names) list))

-- these members, and a member for each of these things
abbrev pub with_things : List Entry → List Thing → Members → Members
with_things names [] members = members
with_things names (thing ∷ things) members = with_things names things (put thing.name (content_data names thing.content) members)

-- the object on a line of its own
abbrev pub object_line : List Entry → List Thing → List ℕ
object_line names things = data_line (object (with_things names things no_members))
