-- The content of `line` lines, for each kind of outcome.
use Rattle.std.specs.Prelude.{ℕ, ℤ, ◌==◌, Bool, true, false, Option, Some, None as Nothing, if◌then◌else◌, List, [], ◌∷◌, codes, decimal}
use Rattle.std.specs.Borrow.{Bor}
use Rattle.std.specs.Fmt.{signed_decimal}
use Rattle.std.specs.Bool.{nat_eq}
use Rattle.census_rows.specs.declared.kinds.Behind.{Behind}
use Rattle.census_rows.specs.declared.kinds.Behind.TheVariants as behind
use Rattle.census_rows.specs.declared.kinds.Class.{Class}
use Rattle.census_rows.specs.declared.kinds.Class.TheVariants.{Resolved, Unresolved, Refused}
use Rattle.census_rows.specs.declared.kinds.Field.{Field}
use Rattle.census_rows.specs.declared.kinds.Label.{Label}
use Rattle.census_rows.specs.declared.kinds.Label.TheVariants as label
use Rattle.census_rows.specs.declared.kinds.Value.{Value}
use Rattle.census_rows.specs.declared.kinds.Value.TheVariants.{Number, Signed, Text}
use Rattle.census_rows.specs.declared.row.Finding.{Finding}
use Rattle.census_rows.specs.declared.row.Finding.TheVariants as finding
use Rattle.census_rows.specs.declared.row.Outcome.{Outcome}
use Rattle.census_rows.specs.declared.row.Outcome.TheVariants.{Found, Bad}
use Rattle.census_rows.specs.Values.{unfolded}

-- the content of a `line` line about a pattern: a word, the fields after it, its class, and the lines that follow it
pub record Said : Type 0 where
  pub word : List ℕ
  pub fields : List Field
  pub class : Class
  pub behind : Behind

-- fields with a number, a signed number and a text
abbrev pub number : Label → ℕ → Field
number label n = record { label = label; value = Number n }

abbrev pub signed : Label → ℤ → Field
signed label z = record { label = label; value = Signed z }

abbrev pub text : Label → Bor (List ℕ) → Field
text label bytes = record { label = label; value = Text bytes }

-- the content for a finding, without rule and population
abbrev pub said_of : Finding → Said
said_of (finding.Ok onset period dx dy code) = record {
  word = codes "ok";
  fields = number label.Onset onset ∷ number label.Period period ∷ signed label.Dx dx ∷ signed label.Dy dy ∷ text label.Code code ∷ [];
  class = Resolved;
  behind = behind.Nothing;
}
said_of (finding.Ash onset objects) = record {
  word = codes "ash";
  fields = number label.Onset onset ∷ number label.Objects objects ∷ [];
  class = Resolved;
  behind = behind.Parts;
}
said_of finding.Unresolved = record { word = codes "none"; fields = []; class = Unresolved; behind = behind.Nothing }
said_of (finding.Large generation) =
    record { word = codes "large"; fields = number label.Generation generation ∷ []; class = Unresolved; behind = behind.Nothing }
said_of (finding.Grows engines) =
    record { word = codes "grows"; fields = number label.Engines engines ∷ []; class = Resolved; behind = behind.Engines }

-- the number of kinds
abbrev pub kinds : ℕ
kinds = 5

-- the number of each kind, from 1 on
abbrev pub kind_of : Finding → ℕ
kind_of (finding.Ok onset period dx dy code) = 1
kind_of (finding.Ash onset objects) = 2
kind_of finding.Unresolved = 3
kind_of (finding.Large generation) = 4
kind_of (finding.Grows engines) = 5

-- the finding of the kind with a number, by the numbers and the word of its fields
abbrev pub finding_of_kind : ℕ → (ℕ → ℕ) → Bor (List ℕ) → Finding
finding_of_kind kind number word =
    if kind == 1 then finding.Ok (number 0) (number 1) (unfolded (number 2)) (unfolded (number 3)) word
    else (if kind == 2 then finding.Ash (number 0) (number 1)
    else (if kind == 4 then finding.Large (number 0)
    else (if kind == 5 then finding.Grows (number 0) else finding.Unresolved)))

-- the content for an outcome
abbrev pub said : Outcome → Said
said (Found rule population found) =
    record (said_of found) { fields = text label.Rule rule ∷ number label.Population population ∷ (said_of found).fields }
said (Bad fault) = record { word = codes "bad"; fields = number label.Fault fault ∷ []; class = Refused; behind = behind.Nothing }

abbrev pub same_class : Class → Class → Bool
same_class Resolved Resolved = true
same_class Unresolved Unresolved = true
same_class Refused Refused = true
same_class _ _ = false

-- true where it recurs, has fallen apart or grows forever
abbrev pub is_resolved : Outcome → Bool
is_resolved outcome = same_class (said outcome).class Resolved

-- true where it does none of these within the bound, or has too many cells
abbrev pub is_unresolved : Outcome → Bool
is_unresolved outcome = same_class (said outcome).class Unresolved

-- true where it is lost, or its text has a fault
abbrev pub is_refused : Outcome → Bool
is_refused outcome = same_class (said outcome).class Refused

-- the fields that are there
abbrev pub present : List (Option Field) → List Field
present [] = []
present (Nothing ∷ fields) = present fields
present (Some field ∷ fields) = field ∷ present fields

-- the number of labels that are declared before one
abbrev pub label_number : Label → ℕ
label_number label.Rule = 0
label_number label.Population = 1
label_number label.Onset = 2
label_number label.Period = 3
label_number label.Dx = 4
label_number label.Dy = 5
label_number label.Code = 6
label_number label.Objects = 7
label_number label.Generation = 8
label_number label.Fault = 9
label_number label.Engines = 10

-- the value of the field with a label, where there is one
abbrev pub value_at : Label → List Field → Option Value
value_at label [] = Nothing
value_at label (field ∷ fields) = if nat_eq (label_number field.label) (label_number label) then Some field.value else value_at label fields

-- the bytes of a value
abbrev pub value_text : Value → List ℕ
value_text (Number n) = decimal n
value_text (Signed z) = signed_decimal z
value_text (Text bytes) = bytes.now

-- the bytes of each field
abbrev pub texts_of : List Field → List (List ℕ)
texts_of [] = []
texts_of (field ∷ fields) = value_text field.value ∷ texts_of fields
