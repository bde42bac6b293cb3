-- Numbers that fit a line.
use Rattle.std.specs.Prelude.{◌≡◌, ℕ, FitsSigned, true, List, ◌∷◌, ◌<◌, ◌^◌, length}
use Rattle.std.specs.Int.{w64}
use Rattle.std.specs.List.{AllByRecursion as Each}
use Rattle.census_bundle.specs.declared.bundle.Folder.{Folder}
use Rattle.census_format.specs.Found.{finding_of}
use Rattle.census_format.specs.Lines.{answers}
use Rattle.census_format.specs.Objects.{objects}
use Rattle.census_readback.specs.Codes.{has_cells}
use Rattle.census_readback.specs.Engines.{gets_away}
use Rattle.census_readback.specs.Lawful.{has_lawful_numbers}
use Rattle.census_readback.specs.Limits.{period_limit}
use Rattle.census_readback.specs.Reports.{ReadsAsReports}
use Rattle.census_readback.specs.declared.engines.Way.{Way}
use Rattle.census_rows.specs.declared.kinds.Field.{Field}
use Rattle.census_rows.specs.declared.kinds.Label.TheVariants as label
use Rattle.census_rows.specs.declared.kinds.Value.{Value}
use Rattle.census_rows.specs.declared.kinds.Value.TheVariants.{Number, Signed, Text}
use Rattle.census_rows.specs.declared.row.Row.{Row}
use Rattle.census_rows.specs.Kinds.{number, said_of}
use Rattle.life_answer.specs.Census.{engines_found, parts_found}
use Rattle.life_answer.specs.declared.finding.Answer.{Answer}
use Rattle.life_answer.specs.declared.finding.Answer.TheVariants.{Found, Refused}
use Rattle.life_answer.specs.declared.finding.Finding.{Finding}
use Rattle.life_answer.specs.declared.finding.Outcome.{Outcome}
use Rattle.life_answer.specs.declared.part.Part.{Part}
use Rattle.life_answer.specs.declared.question.Question.{Question}
use Rattle.life_answer.specs.declared.tale.Engines.{Engines}
use Rattle.life_answer.specs.declared.tale.Tale.{Tale}
use Rattle.life_answer.specs.Ranges.{IsInRange}

-- the part's code is not that of no cell
abbrev pub IsCodedPart : Part → Type 0
IsCodedPart part = has_cells part.code ≡ true

-- a number that fits 64 bits, or a text with a byte
abbrev pub FitsValue : Value → Type 0
FitsValue (Number n) = n < 2 ^ 64
FitsValue (Signed z) = FitsSigned w64 z
FitsValue (Text bytes) = 0 < length bytes.now

-- what is emitted has a code, and its number fits 64 bits
abbrev pub FitsEmitted : Part → Type 0
FitsEmitted part = IsCodedPart part × (part.count < 2 ^ 64)

abbrev pub way_of : Tale → Way
way_of tale = record { period = tale.period; dx = tale.dx; dy = tale.dy }

-- a part of what engines with this tale emit gets away from them
abbrev pub GetsAway : Tale → Part → Type 0
GetsAway tale part = gets_away (way_of tale) part.code ≡ true

-- what is emitted fits, and gets away
abbrev pub FitsTale : Tale → Type 0
FitsTale tale = Each FitsEmitted tale.emits × Each (GetsAway tale) tale.emits

-- what is reported of the engines is in range
abbrev pub FitsEngines : Engines → Type 0
FitsEngines engines = IsInRange period_limit engines × Each FitsEmitted engines.tale.emits × Each (GetsAway engines.tale) engines.tale.emits

-- the numbers of an outcome fit 64 bits, each object has a code, and what is reported of engines is in range
abbrev pub FitsOutcome : Outcome → Type 0
FitsOutcome outcome =
    Each (λ (field : Field). FitsValue field.value) (said_of (finding_of outcome)).fields
    × Each IsCodedPart (parts_found outcome) × Each FitsEngines (engines_found outcome)

-- the fields of a finding, without its rule
abbrev pub fields_of : Finding → List Field
fields_of finding = number label.Population finding.population ∷ (said_of (finding_of finding.outcome)).fields

-- the numbers found are in range, and each object has a code
abbrev pub FitsReport : Finding → Type 0
FitsReport finding = (has_lawful_numbers (fields_of finding) ≡ true) × FitsOutcome finding.outcome

abbrev pub IsToldAnswer : Answer → Type 0
IsToldAnswer (Found rule finding) = FitsReport finding
IsToldAnswer (Refused number) = number < 2 ^ 64

-- what is found of the folder's patterns can be reported, and there are fewer than 2^64 objects in all
abbrev pub IsToldFolder : Question → Folder → Type 0
IsToldFolder question f = Each IsToldAnswer (answers question f.entries) × (length (objects (answers question f.entries)) < 2 ^ 64)

-- what is found of the bundle's patterns has numbers in the range of a line
abbrev pub InRange : List Folder → Question → Type 0
InRange b question = Each (IsToldFolder question) b

-- the text is read back, giving these rows
pub record Readable (text : List ℕ) : Type 0 where
  pub rows : List Row
  pub read : ReadsAsReports rows text
