-- The answer for a pattern, as the rows of a report have it.
use Rattle.std.specs.Prelude.{ℕ, Bool, List}
use Rattle.std.specs.Borrow.{Bor}
use Rattle.life_answer.specs.declared.finding.Answer.{Answer}
use Rattle.life_answer.specs.declared.finding.Answer.TheVariants.{Found, Refused}
use Rattle.life_answer.specs.declared.finding.Outcome.{Outcome}
use Rattle.life_answer.specs.declared.finding.Outcome.TheVariants.{Recurs, Unresolved, Large, Ash, Grows}
use Rattle.life_answer.specs.CountedTales.{engines_in}
use Rattle.life_answer.specs.Parts.{objects_in}
use Rattle.life_cells.specs.Rules.{rule_text}
use Rattle.census_rows.specs.declared.kinds.Class.{Class}
use Rattle.census_rows.specs.declared.row.Finding as row
use Rattle.census_rows.specs.declared.row.Finding.TheVariants as finding
use Rattle.census_rows.specs.declared.row.Outcome as rows
use Rattle.census_rows.specs.declared.row.Outcome.TheVariants as outcome
use Rattle.census_rows.specs.Kinds.{said, same_class}

-- these bytes, wherever they are
abbrev pub lent : List ℕ → Bor (List ℕ)
lent bytes = record { ref_ptr = (0, 0); now = bytes }

-- the outcome, as a row has it: one line here for each kind
abbrev pub finding_of : Outcome → row.Finding
finding_of (Recurs onset period dx dy code) = finding.Ok onset period dx dy (lent code)
finding_of (Ash onset parts) = finding.Ash onset (objects_in parts)
finding_of Unresolved = finding.Unresolved
finding_of (Large generation) = finding.Large generation
finding_of (Grows engines) = finding.Grows (engines_in engines)

-- the answer, as a row has it, with the rule and the population of generation 0; if the text is refused, the number
-- of its fault, or 0
abbrev pub outcome_of : Answer → rows.Outcome
outcome_of (Found rule found) = outcome.Found (lent (rule_text rule)) found.population (finding_of found.outcome)
outcome_of (Refused number) = outcome.Bad number

-- the class of a pattern with this answer
abbrev pub class_of : Answer → Class
class_of answer = (said (outcome_of answer)).class

-- true if the answer is of this class
abbrev pub is_of : Class → Answer → Bool
is_of class answer = same_class (class_of answer) class
