-- The lines of a pattern's report.
use Rattle.std.specs.Prelude.{ℕ, suc, Option, Some, None, List, [], ◌∷◌, ◌++◌, codes, decimal, map}
use Rattle.std.specs.Fmt.{signed_decimal}
use Rattle.life_answer.specs.declared.part.Part.{Part}
use Rattle.life_answer.specs.declared.tale.Engines.{Engines}
use Rattle.life_answer.specs.CountedTales.{engines_in}
use Rattle.census_facts.specs.Names.{Entry, name_in}
use Rattle.census_facts.specs.Facts.{Content, Thing}
use Rattle.census_facts.specs.Facts as told

-- the bytes of a line
abbrev pub Line : Type 0
Line = List ℕ

-- the values, each with a blank before it
abbrev pub fields_text : List (List ℕ) → List ℕ
fields_text [] = []
fields_text (value ∷ values) = 32 ∷ value ++ fields_text values

-- a name and values, separated by blanks, and LF
unfoldable pub line : List ℕ → List (List ℕ) → Line
line name values = name ++ fields_text values ++ codes "\n"

-- the lines' bytes, one line after another
abbrev pub text_of : List Line → List ℕ
text_of [] = []
text_of (l ∷ ls) = l ++ text_of ls

-- an object's name, if it has one
abbrev pub name_values : Option (List ℕ) → List (List ℕ)
name_values None = []
name_values (Some name) = name ∷ []

-- `part`, the code of an object, the number of parts with this code, and its name, if it has one
abbrev pub part_line : List Entry → Part → Line
part_line names part = line (codes "part") (part.code ∷ decimal part.count ∷ name_values (name_in names part.code))

-- `engine`, the number of the line, the period and the displacement of these engines, and their count
abbrev pub engine_line : ℕ → Engines → Line
engine_line e engines =
    line (codes "engine")
    (decimal e ∷ decimal engines.tale.period ∷ signed_decimal engines.tale.dx ∷ signed_decimal engines.tale.dy ∷ decimal engines.count ∷ [])

-- `emits`, the number of the engines' line, the code of an object, the number of such objects that each of them emits in a
-- period, and the object's name, if it has one
abbrev pub emits_line : List Entry → ℕ → Part → Line
emits_line names e part =
    line (codes "emits") (decimal e ∷ part.code ∷ decimal part.count ∷ name_values (name_in names part.code))

-- the `engine` lines, each followed by its `emits` lines, of engines numbered from e
abbrev pub engines_lines : List Entry → ℕ → List Engines → List Line
engines_lines names e [] = []
engines_lines names e (engines ∷ lines) =
    (engine_line e engines ∷ map (emits_line names e) engines.tale.emits) ++ engines_lines names (suc e) lines

-- the lines of the content under a name: for parts, a `part` line for each code; for engines, their number and their lines
abbrev pub content_lines : List Entry → List ℕ → Content → List Line
content_lines names name (told.number n) = line name (decimal n ∷ []) ∷ []
content_lines names name (told.size width height) = line name (decimal width ∷ decimal height ∷ []) ∷ []
content_lines names name (told.moves dx dy) = line name (signed_decimal dx ∷ signed_decimal dy ∷ []) ∷ []
content_lines names name (told.text bytes) = line name (bytes ∷ []) ∷ []
content_lines names name (told.parts list) = map (part_line names) list
content_lines names name (told.engines list) = line name (decimal (engines_in list) ∷ []) ∷ engines_lines names 1 list

-- the lines of these things, one thing after another
abbrev pub things_lines : List Entry → List Thing → List ℕ
things_lines names [] = []
things_lines names (thing ∷ things) = text_of (content_lines names thing.name thing.content) ++ things_lines names things
