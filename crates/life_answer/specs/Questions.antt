-- The answer to an RLE text, for each question.
use Rattle.std.specs.Prelude.{◌≤◌, ℕ, ◌*◌, min, List, Result, Ok, Err}
use Rattle.std.specs.Coded.{Coded}
use Rattle.life_model.specs.Rule.{Rule}
use Rattle.life_model.specs.Generation.{Generation}
use Rattle.life_model.specs.Evolution.{generation}
use Rattle.life_objects.specs.Limits.{objects_bound_limit}
use Rattle.life_text.specs.declared.rle.RleFault.{RleFault}
use Rattle.life_text.specs.Faults.{fault_number}
use Rattle.life_text.specs.Rle.{reading}
use Rattle.life_text.specs.Picture.{Picture, picture_of}
use Rattle.life_answer.specs.contracts.question.Question as question_row
use Rattle.life_answer.specs.declared.finding.Answer.{Answer}
use Rattle.life_answer.specs.declared.finding.Answer.TheVariants.{Found, Refused}
use Rattle.life_answer.specs.declared.finding.Finding.{Finding}
use Rattle.life_answer.specs.declared.finding.Outcome.{Outcome}
use Rattle.life_answer.specs.declared.question.Question.{Question}
use Rattle.life_answer.specs.declared.question.Question.TheVariants.{Objects, Settles}
use Rattle.life_answer.specs.Answers.{finding_with, outcome_of}
use Rattle.life_answer.specs.Census.{fallen_of}
use Rattle.life_answer.specs.Growing.{allowed_bound, growing_or}
use Rattle.life_answer.specs.Limited.{outcome_unless_large}
use Rattle.life_answer.specs.Told.{growth_told}

-- the bound of a question
abbrev pub bound_of : Question → ℕ
bound_of (Settles bound cells) = bound
bound_of (Objects bound cells near horizon) = bound

-- the greatest bound of the question how a pattern settles
abbrev pub settles_bound_limit : ℕ
settles_bound_limit = 1000000

-- the greatest bound of such a question
abbrev pub greatest_bound : Question → ℕ
greatest_bound (Settles bound cells) = settles_bound_limit
greatest_bound (Objects bound cells near horizon) = objects_bound_limit

-- the greatest number of generations within which growth is looked for
abbrev pub growth_horizon_limit : ℕ
growth_horizon_limit = 10000

-- growth, if it is looked for, is looked for within at least 1 generation and at most `growth_horizon_limit`
abbrev pub HasHorizon : Question → Type 0
HasHorizon (Settles bound cells) = Unit {0}
HasHorizon (Objects bound cells near horizon) = (1 ≤ horizon) × (horizon ≤ growth_horizon_limit)

-- the bound is in the range that is answered, and so is the horizon
abbrev pub IsAnswered : Question → Type 0
IsAnswered question = (1 ≤ bound_of question) × (bound_of question ≤ greatest_bound question) × HasHorizon question

-- The outcome of a set. If objects are asked for, it may grow: as its generation c does, where c is the greatest number up to
-- the bound such that no generation up to 4 * c has more cells than allowed.
abbrev pub outcome_to : Question → Rule → Generation → Outcome
outcome_to (Settles bound cells) R G = outcome_unless_large cells R G bound (outcome_of R G bound)
outcome_to (Objects bound cells near horizon) R G =
    let c = allowed_bound cells R G bound in
    growing_or (growth_told near R (min horizon c) (generation R G c))
    (outcome_unless_large cells R G (3 * bound) (fallen_of near R G bound))

-- the finding for a set
abbrev pub finding_to : Question → Rule → Generation → Finding
finding_to question R G = finding_with G (outcome_to question R G)

abbrev pub answer_to : Question → Result Picture RleFault → Answer
answer_to question (Ok pattern) = Found pattern.rule (finding_to question pattern.rule pattern.cells)
answer_to question (Err fault) = Refused (fault_number fault)

-- the answer to an RLE text
unfoldable pub answer_to_question : Question → List ℕ → Answer
answer_to_question question text = answer_to question (picture_of (reading text))

-- the questions, as values that proofs distinguish
pub question_code : Coded Question
question_code = (question_row.the_row).coded
