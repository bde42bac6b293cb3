-- Explanations in words beside an error or a report, where faults are explained.
use Rattle.std.specs.Prelude.{◌≡◌, ℕ, Bool, true, false, List, [], ◌++◌, codes}
use Rattle.std.specs.List.{flat_map, list_all}
use Rattle.census_bundle.specs.Names.{is_name_byte}

-- a line: two blanks, words, and LF
abbrev pub told_line : List ℕ → List ℕ
told_line words = codes "  " ++ words ++ codes "\n"

-- these bytes are whole lines, whose words have no control character (0 to 31, 127)
pub record AreLines (bytes : List ℕ) : Type 0 where
  pub words : List (List ℕ)
  pub shown : list_all (list_all is_name_byte) words ≡ true
  pub are : bytes ≡ flat_map told_line words

-- these bytes are whole lines where faults are explained, and nothing otherwise
abbrev pub IsExplanation : Bool → List ℕ → Type 0
IsExplanation true bytes = AreLines bytes
IsExplanation false bytes = bytes ≡ []
