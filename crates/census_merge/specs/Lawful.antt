-- What a lawful report says of collections.
use Rattle.std.specs.Prelude.{◌≡◌, ◌≢◌, ℕ, ◌<◌, ◌≤◌, ◌^◌, true, false, ◌==◌, Option, Some, None, List, [], ◌∷◌, length, ⊤}
use Rattle.std.specs.declared.cmp.Ordering.TheVariants.{Less}
use Rattle.std.specs.Int.{bit_at}
use Rattle.std.specs.List.{AllByRecursion as Each}
use Rattle.census_bundle.specs.Names.{is_name}
use Rattle.census_format.specs.Lines.{Collection, Saying, found_of}
use Rattle.census_format.specs.Objects.{Object, objects, same_object, tally}
use Rattle.census_merge.specs.Ranges.{IsToldAnswer}
use Rattle.census_readback.specs.Codes.{is_code}
use Rattle.census_readback.specs.Lawful.{is_recurrence}
use Rattle.census_readback.specs.Limits.{fault_limit}
use Rattle.census_readback.specs.Limits.{count_limit}
use Rattle.life_answer.specs.CountedTales.{engines_in, tale_cmp}
use Rattle.life_answer.specs.declared.finding.Answer.{Answer}
use Rattle.life_answer.specs.declared.finding.Answer.TheVariants.{Found, Refused}
use Rattle.life_answer.specs.declared.finding.Outcome.{Outcome}
use Rattle.life_answer.specs.declared.finding.Outcome.TheVariants.{Recurs, Ash, Grows}
use Rattle.life_answer.specs.declared.part.Part.{Part}
use Rattle.life_answer.specs.declared.tale.Engines.{Engines}
use Rattle.life_cells.specs.TextOrder.{shorter_cmp}
use Rattle.life_model.specs.Rule.{Rule}

-- ---- codes

-- neither a blank nor LF
abbrev pub IsSolid : List ℕ → Type 0
IsSolid bytes = Each (λ byte. (byte ≢ 32) × (byte ≢ 10)) bytes

abbrev pub IsSolidPart : Part → Type 0
IsSolidPart part = IsSolid part.code

abbrev pub IsSolidEngines : Engines → Type 0
IsSolidEngines engines = Each IsSolidPart engines.tale.emits

-- the codes of an outcome have neither a blank nor LF
abbrev pub IsCoded : Outcome → Type 0
IsCoded (Recurs onset period dx dy code) = IsSolid code
IsCoded (Ash onset parts) = Each IsSolidPart parts
IsCoded (Grows engines) = Each IsSolidEngines engines
IsCoded _ = ⊤

abbrev pub IsCodedAnswer : Answer → Type 0
IsCodedAnswer (Found rule finding) = IsCoded finding.outcome
IsCodedAnswer (Refused number) = ⊤

-- a code that has a byte begins as a code
abbrev pub IsCodeIfSome : List ℕ → Type 0
IsCodeIfSome code = 0 < length code → is_code code ≡ true

-- ---- rules

-- no birth has 0 neighbours, and no birth or survival has more than 8
abbrev pub IsLifeLike : Rule → Type 0
IsLifeLike rule = ((bit_at rule.birth 0 == 1) ≡ false) × (rule.birth < 512) × (rule.survival < 512)

abbrev pub IsLifeLikeAnswer : Answer → Type 0
IsLifeLikeAnswer (Found rule finding) = IsLifeLike rule
IsLifeLikeAnswer (Refused number) = ⊤

-- ---- parts and engines

-- the code comes after the last one, if there is one
abbrev pub IsBehind : Option (List ℕ) → List ℕ → Type 0
IsBehind None code = ⊤
IsBehind (Some last) code = shorter_cmp last code ≡ Less

-- codes that rise, from after the last one on
abbrev pub Rise : Option (List ℕ) → List Part → Type 0
Rise last [] = ⊤
Rise last (p ∷ parts) = IsBehind last p.code × Rise (Some p.code) parts

abbrev pub IsCounted : Part → Type 0
IsCounted p = 0 < p.count

abbrev pub IsCodePart : Part → Type 0
IsCodePart p = IsCodeIfSome p.code

-- the parts rise, each is counted, and each that has a byte has a code
abbrev pub AreFairParts : List Part → Type 0
AreFairParts parts = Rise None parts × Each IsCounted parts × Each IsCodePart parts

abbrev pub Rises : Engines → Engines → Type 0
Rises line next = tale_cmp line.tale next.tale ≡ Less

-- each comes after the one before it
abbrev pub Ascend : List Engines → Type 0
Ascend [] = ⊤
Ascend (line ∷ []) = ⊤
Ascend (line ∷ next ∷ lines) = Rises line next × Ascend (next ∷ lines)

abbrev pub AreFairEngines : Engines → Type 0
AreFairEngines line = AreFairParts line.tale.emits

-- there are some engines, they rise, and so does what each emits
pub record IsFairGrowth (told : List Engines) : Type 0 where
  pub some : 1 ≤ engines_in told
  pub rise : Ascend told
  pub emits : Each AreFairEngines told

-- its code and its displacement fit its period, its parts are in the order of their codes, and its engines in their order
abbrev pub IsFair : Outcome → Type 0
IsFair (Recurs onset period dx dy code) = is_recurrence period dx dy code ≡ true
IsFair (Ash onset parts) = AreFairParts parts
IsFair (Grows engines) = IsFairGrowth engines
IsFair _ = ⊤

abbrev pub IsFairAnswer : Answer → Type 0
IsFairAnswer (Found rule finding) = IsFair finding.outcome
IsFairAnswer (Refused number) = number ≤ fault_limit

-- ---- collections

-- its name is lawful, and no code has a blank
abbrev pub IsSayable : Saying → Type 0
IsSayable s = (is_name s.name ≡ true) × IsCodedAnswer s.found

pub record IsSayableCollection (f : Collection) : Type 0 where
  pub named : is_name f.name ≡ true
  pub few : length f.sayings ≤ count_limit
  pub each : Each IsSayable f.sayings

-- names are lawful, no code has a blank, and there are no more collections and patterns than a report may have
pub record AreSayable (b : List Collection) : Type 0 where
  pub few : length b ≤ count_limit
  pub each : Each IsSayableCollection b

-- its numbers fit 64 bits, and so does the number of each object
abbrev pub IsToldCollection : Collection → Type 0
IsToldCollection f = Each IsToldAnswer (found_of f.sayings) × Each (λ (e : Object × ℕ). e.1 < 2 ^ 64) (tally same_object (objects (found_of f.sayings)))

-- its rules are printed as rules are, and its codes, parts and engines are in their order
pub record IsLawfulCollection (f : Collection) : Type 0 where
  pub told : IsToldCollection f
  pub ruled : Each IsLifeLikeAnswer (found_of f.sayings)
  pub fair : Each IsFairAnswer (found_of f.sayings)

abbrev pub AreLawful : List Collection → Type 0
AreLawful said = AreSayable said × Each IsLawfulCollection said
