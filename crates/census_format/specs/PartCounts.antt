-- The meaning of the counts of a closing for the objects that patterns fall apart into, by the parts that these count as, if
-- objects are asked for.
use Rattle.std.specs.Prelude.{◌≡◌, ℕ, ◌+◌, ◌≤◌, Bool, if◌then◌else◌, List, [], ◌∷◌, Option, count_by}
use Rattle.std.specs.List.{All, sum_by}
use Rattle.census_bundle.specs.declared.bundle.Entry.{Entry}
use Rattle.life_answer.specs.declared.finding.Answer.{Answer}
use Rattle.life_answer.specs.declared.finding.Answer.TheVariants.{Found, Refused}
use Rattle.life_answer.specs.Census.{parts_found}
use Rattle.life_answer.specs.declared.finding.Outcome.{Outcome}
use Rattle.life_answer.specs.declared.finding.Outcome.TheVariants.{Recurs}
use Rattle.life_answer.specs.declared.part.Part.{Part}
use Rattle.life_answer.specs.declared.question.Question.TheVariants as question
use Rattle.life_model.specs.Rule.{Rule}
use Rattle.census_format.specs.Lines.{answer_to_entry, answers}
use Rattle.census_format.specs.Objects.{Object, object, objects, same_object, tally}

-- the number of objects among these parts that have this rule and code
abbrev pub parts_as : Object → Rule → List Part → ℕ
parts_as k rule [] = 0
parts_as k rule (part ∷ parts) = (if same_object k (object rule part.code) then part.count else 0) + parts_as k rule parts

-- the number of objects with this rule and code that an outcome counts as: a pattern that recurs is one object
abbrev pub outcome_as : Object → Rule → Outcome → ℕ
outcome_as k rule (Recurs onset period dx dy code) = if same_object k (object rule code) then 1 else 0
outcome_as k rule outcome = parts_as k rule (parts_found outcome)

-- the number of objects with this rule and code that are counted of a pattern with this answer
abbrev pub fallen_as : Object → Answer → ℕ
fallen_as k (Found rule finding) = outcome_as k rule finding.outcome
fallen_as k (Refused number) = 0

-- the number of objects with this rule and code that are counted of these patterns in all
abbrev pub all_fallen_as : (bound : ℕ) (most : Option ℕ) (near : Bool) (horizon : ℕ) → List Entry → Object → ℕ
all_fallen_as bound most near horizon es k = sum_by (λ (e : Entry). fallen_as k (answer_to_entry (question.Objects bound most near horizon) e)) es

-- The line's number is that of the objects that have its rule and code, of which there are some.
pub record CountsParts (bound : ℕ) (most : Option ℕ) (near : Bool) (horizon : ℕ) (es : List Entry) (line : Object × ℕ) : Type 0 where
  pub count : line.1 ≡ all_fallen_as bound most near horizon es line.0
  pub some : 1 ≤ line.1

-- Each `code` line of a collection counts the objects that have its rule and code, and each rule and code that an object has is
-- in one line, whether cells that are near one another are one object or not.
abbrev pub CodesCountParts : Type 0
CodesCountParts =
    (bound : ℕ) (most : Option ℕ) (near : Bool) (horizon : ℕ) (es : List Entry)
    → All (CountsParts bound most near horizon es) (tally same_object (objects (answers (question.Objects bound most near horizon) es)))
    × ((k : Object) → 1 ≤ all_fallen_as bound most near horizon es k → count_by (λ line. same_object k line.0) (tally same_object (objects (answers (question.Objects bound most near horizon) es))) ≡ 1)
