-- JSON on a line of its own.
use Rattle.std.specs.Prelude.{ℕ, List, [], ◌∷◌, ◌++◌, codes, length}
use Rattle.bstr.specs.Find.{matches}
use Rattle.bstr.specs.Text.{replaced_at}
use Rattle.serde_json.specs.Data.{Data}
use Rattle.serde_json.specs.Written.{compact_text}

-- the bytes, with each occurrence of the first ones replaced by the second ones
abbrev pub replaced : List ℕ → List ℕ → List ℕ → List ℕ
replaced old new bytes = replaced_at bytes (length old) new 0 (matches bytes old 0)

-- JSON in which the characters that other programs may take for line ends, U+0085, U+2028 and U+2029, are written as escapes
abbrev pub with_line_ends_escaped : List ℕ → List ℕ
with_line_ends_escaped json =
    replaced (226 ∷ 128 ∷ 169 ∷ []) (codes "\\u2029")
    (replaced (226 ∷ 128 ∷ 168 ∷ []) (codes "\\u2028") (replaced (194 ∷ 133 ∷ []) (codes "\\u0085") json))

-- JSON, as `serde_json` writes it without blanks, and an LF
abbrev pub data_line : Data → List ℕ
data_line value = with_line_ends_escaped (compact_text value) ++ 10 ∷ []
