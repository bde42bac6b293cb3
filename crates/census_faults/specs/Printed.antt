-- Names as they are shown.
use Rattle.std.specs.Prelude.{◌≡◌, ℕ, true, List, [], ◌∷◌, if◌then◌else◌}
use Rattle.std.specs.List.{flat_map, list_all}
use Rattle.hex.specs.Hex.{encode_lower}
use Rattle.census_bundle.specs.Names.{is_name_byte}

-- the byte itself, or `\x` and its two digits where no lawful name has it
abbrev pub printed_byte : ℕ → List ℕ
printed_byte c = if is_name_byte c then c ∷ [] else 92 ∷ 120 ∷ encode_lower (c ∷ [])

abbrev pub printable_text : List ℕ → List ℕ
printable_text bytes = flat_map printed_byte bytes

-- printable text consists only of bytes that lawful names may have, so no name ends a line
abbrev pub ShowsNameBytes : Type 0
ShowsNameBytes = (bytes : List ℕ) → list_all is_name_byte (printable_text bytes) ≡ true

-- a name that consists only of such bytes, as a lawful name, is shown unchanged
abbrev pub ShowsNames : Type 0
ShowsNames = (name : List ℕ) → list_all is_name_byte name ≡ true → printable_text name ≡ name
