-- Rows as their kinds, numbers and texts.
use Rattle.std.specs.Prelude.{ℕ, zero, suc, ◌+◌, ◌==◌, if◌then◌else◌, List, [], ◌∷◌}
use Rattle.std.specs.Borrow.{Bor}
use Rattle.census_rows.specs.declared.row.Finding.{Finding}
use Rattle.census_rows.specs.declared.row.Outcome.{Outcome}
use Rattle.census_rows.specs.declared.row.Outcome.TheVariants.{Found, Bad}
use Rattle.census_rows.specs.declared.row.Row.{Row}
use Rattle.census_rows.specs.declared.row.Row.TheVariants.{Open, Line, Part, Engine, Emits, Code, Close, End}
use Rattle.census_rows.specs.Kinds.{finding_of_kind, kind_of, kinds, said_of}
use Rattle.census_rows.specs.Values.{folded, numbers_of, unfolded, words_of}
use Rattle.census_rows.specs.Store.Numbers.{number_in}

abbrev pub Text : Type 0
Text = Bor (List ℕ)

-- a row as its kind, its numbers and its texts
pub record Packed : Type 0 where
  pub tag : ℕ
  pub numbers : List ℕ
  pub texts : List Text

abbrev pub pack : ℕ → List ℕ → List Text → Packed
pack tag numbers texts = record { tag = tag; numbers = numbers; texts = texts }

-- the row of a pattern with this finding
abbrev pub packed_finding : ℕ → ℕ → ℕ → Text → Text → Finding → Packed
packed_finding collection pattern population rule name found =
    pack (kind_of found) (collection ∷ pattern ∷ population ∷ numbers_of (said_of found).fields) (rule ∷ name ∷ words_of (said_of found).fields)

abbrev pub packed_line : ℕ → ℕ → Text → Outcome → Packed
packed_line collection pattern name (Found rule population found) = packed_finding collection pattern population rule name found
packed_line collection pattern name (Bad fault) = pack (kinds + 1) (collection ∷ pattern ∷ fault ∷ []) (name ∷ [])

abbrev pub packed : Row → Packed
packed (Line collection pattern outcome name) = packed_line collection pattern name outcome
packed (Open collection patterns name) = pack 0 (collection ∷ patterns ∷ []) (name ∷ [])
packed (Part collection pattern code count) = pack (kinds + 2) (collection ∷ pattern ∷ count ∷ []) (code ∷ [])
packed (Engine collection pattern number period dx dy count) = pack (kinds + 3) (collection ∷ pattern ∷ number ∷ period ∷ folded dx ∷ folded dy ∷ count ∷ []) ([])
packed (Emits collection pattern engine code count) = pack (kinds + 4) (collection ∷ pattern ∷ engine ∷ count ∷ []) (code ∷ [])
packed (Code collection rule code count) = pack (kinds + 5) (collection ∷ count ∷ []) (rule ∷ code ∷ [])
packed (Close collection patterns resolved unresolved refused) = pack (kinds + 6) (collection ∷ patterns ∷ resolved ∷ unresolved ∷ refused ∷ []) ([])
packed (End collections patterns) = pack (kinds + 7) (collections ∷ patterns ∷ []) ([])

-- the number at this index among those at the start of bytes
abbrev pub number_at : ℕ → List ℕ → ℕ
number_at zero bytes = (number_in bytes).0
number_at (suc place) bytes = number_at place (number_in bytes).1

-- the first text, where there is one
abbrev pub first_text : Text → List Text → Text
first_text nothing [] = nothing
first_text nothing (text ∷ texts) = text

abbrev pub other_texts : List Text → List Text
other_texts [] = []
other_texts (text ∷ texts) = texts

-- the text at this index
abbrev pub text_at : Text → ℕ → List Text → Text
text_at nothing zero texts = first_text nothing texts
text_at nothing (suc place) texts = text_at nothing place (other_texts texts)

-- the bytes after this many numbers, and the texts after this many
abbrev pub behind_numbers : ℕ → List ℕ → List ℕ
behind_numbers zero bytes = bytes
behind_numbers (suc count) bytes = behind_numbers count (number_in bytes).1

abbrev pub behind_texts : ℕ → List Text → List Text
behind_texts zero texts = texts
behind_texts (suc count) texts = behind_texts count (other_texts texts)

-- the finding about a pattern, after its collection, its number, its population, its rule and its name
abbrev pub finding_of : Text → ℕ → List ℕ → List Text → Finding
finding_of nothing kind bytes texts = finding_of_kind kind (λ place. number_at place bytes) (text_at nothing 0 texts)

-- the `line` row of a kind
abbrev pub line_of : Text → ℕ → List ℕ → List Text → Row
line_of nothing tag bytes texts =
    if tag == kinds + 1 then Line (number_at 0 bytes) (number_at 1 bytes) (Bad (number_at 2 bytes)) (text_at nothing 0 texts) else Line (number_at 0 bytes) (number_at 1 bytes) (Found (text_at nothing 0 texts) (number_at 2 bytes) (finding_of nothing tag (behind_numbers 3 bytes) (behind_texts 2 texts))) (text_at nothing 1 texts)

abbrev pub open_of : Text → List ℕ → List Text → Row
open_of nothing bytes texts = Open (number_at 0 bytes) (number_at 1 bytes) (text_at nothing 0 texts)

abbrev pub part_of : Text → List ℕ → List Text → Row
part_of nothing bytes texts = Part (number_at 0 bytes) (number_at 1 bytes) (text_at nothing 0 texts) (number_at 2 bytes)

abbrev pub engine_of : Text → List ℕ → List Text → Row
engine_of nothing bytes texts = Engine (number_at 0 bytes) (number_at 1 bytes) (number_at 2 bytes) (number_at 3 bytes) (unfolded (number_at 4 bytes)) (unfolded (number_at 5 bytes)) (number_at 6 bytes)

abbrev pub emits_of : Text → List ℕ → List Text → Row
emits_of nothing bytes texts = Emits (number_at 0 bytes) (number_at 1 bytes) (number_at 2 bytes) (text_at nothing 0 texts) (number_at 3 bytes)

abbrev pub code_of : Text → List ℕ → List Text → Row
code_of nothing bytes texts = Code (number_at 0 bytes) (text_at nothing 0 texts) (text_at nothing 1 texts) (number_at 1 bytes)

abbrev pub close_of : Text → List ℕ → List Text → Row
close_of nothing bytes texts = Close (number_at 0 bytes) (number_at 1 bytes) (number_at 2 bytes) (number_at 3 bytes) (number_at 4 bytes)

abbrev pub end_of : Text → List ℕ → List Text → Row
end_of nothing bytes texts = End (number_at 0 bytes) (number_at 1 bytes)

-- the row of a kind
abbrev pub row_of : Text → ℕ → List ℕ → List Text → Row
row_of nothing tag bytes texts =
    if tag == 0 then open_of nothing bytes texts else (if tag == kinds + 2 then part_of nothing bytes texts else (if tag == kinds + 3 then engine_of nothing bytes texts else (if tag == kinds + 4 then emits_of nothing bytes texts else (if tag == kinds + 5 then code_of nothing bytes texts else (if tag == kinds + 6 then close_of nothing bytes texts else (if tag == kinds + 7 then end_of nothing bytes texts else line_of nothing tag bytes texts))))))
