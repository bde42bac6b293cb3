-- What is found of patterns: codes and displacements fit periods, and parts and engines are in their order.
use Rattle.std.proofs.Common.{◌≡◌, ℕ, ◌*◌, min, Bool, true, false, cond, Option, Some, None as Nothing, Result, Ok, Err, List, refl, arith}
use Rattle.std.specs.Prelude.{⊤}
use Rattle.census_bundle.specs.declared.bundle.Entry.{Entry}
use Rattle.census_format.specs.Lines.{answer_to_entry}
use Rattle.census_format.specs.Objects.{objects}
use Rattle.life_answer.specs.Answers.{outcome_at, outcome_from}
use Rattle.life_answer.specs.Answers as answers
use Rattle.life_answer.specs.Census.{ash_onset, census_found, census_of, fallen_of}
use Rattle.life_answer.specs.Growing.{allowed_bound, growing_or}
use Rattle.life_answer.specs.Limited.{first_past, outcome_unless_large, unless_large}
use Rattle.life_answer.specs.Questions.{answer_to, answer_to_question, outcome_to}
use Rattle.life_answer.specs.declared.finding.Answer.TheVariants.{Refused}
use Rattle.life_answer.specs.declared.finding.Outcome.{Outcome}
use Rattle.life_answer.specs.declared.finding.Outcome.TheVariants.{Recurs, Unresolved, Large, Ash, Grows}
use Rattle.life_answer.specs.declared.question.Question.{Question}
use Rattle.life_answer.specs.declared.tale.Engines.{Engines}
use Rattle.life_answer.specs.Told.{growth_told}
use Rattle.life_answer.specs.declared.question.Question.TheVariants.{Objects, Settles}
use Rattle.life_objects.specs.Decided.Decided.{ash_of}
use Rattle.life_model.specs.Evolution.{generation}
use Rattle.life_model.specs.Generation.{Generation}
use Rattle.life_model.specs.Rule.{Rule}
use Rattle.life_text.specs.Picture.{Picture, picture_of}
use Rattle.life_text.specs.Rle.{reading}
use Rattle.life_text.specs.declared.rle.RleFault.{RleFault}
use Rattle.census_merge.proofs.CodeTexts.{IsToldRecurrence, outcome-told as recurrence-told}
use Rattle.census_merge.proofs.FaultNumbers.{IsNumbered, text-numbered}
use Rattle.census_merge.proofs.Grown.{growth-fair}
use Rattle.census_merge.proofs.OneOrMore.{one_of_two}
use Rattle.census_merge.proofs.PartsFound.{parts-fair}
use Rattle.census_merge.specs.Lawful.{IsFair, IsFairAnswer, IsFairGrowth}

-- ---- what is found

-- it has not fallen apart, and it does not grow
abbrev IsWhole : Outcome → Type 0
IsWhole (Ash onset parts) = ⊥
IsWhole (Grows engines) = ⊥
IsWhole _ = ⊤

at-whole : (R : Rule) (G : Generation) (onset : ℕ) (period : Option ℕ) → IsWhole (outcome_at R G onset period)
at-whole R G onset Nothing = tt
at-whole R G onset (Some period) = tt

from-whole : (R : Rule) (G : Generation) (b : ℕ) (onset : Option ℕ) → IsWhole (outcome_from R G b onset)
from-whole R G b Nothing = tt
from-whole R G b (Some onset) = at-whole R G onset _

settled-whole : (R : Rule) (G : Generation) (b : ℕ) → IsWhole (answers.outcome_of R G b)
unfolding answers.outcome_of
settled-whole R G b = from-whole R G b _

by-recurrence : (outcome : Outcome) → IsWhole outcome → IsToldRecurrence outcome → IsFair outcome
by-recurrence (Recurs onset period dx dy code) whole h = h
by-recurrence (Ash onset parts) whole h = absurd whole
by-recurrence (Grows engines) whole h = absurd whole
by-recurrence Unresolved whole h = tt
by-recurrence (Large n) whole h = tt

settled-fair : (R : Rule) (G : Generation) (b : ℕ) → IsFair (answers.outcome_of R G b)
settled-fair R G b = by-recurrence (answers.outcome_of R G b) (settled-whole R G b) (recurrence-told R G b)

census-found-fair : (near : Bool) (R : Rule) (b onset : ℕ) (objects : Option (List Generation)) → IsFair (census_found near R b onset objects)
census-found-fair near R b onset Nothing = tt
census-found-fair near R b onset (Some objects) = parts-fair near R b objects

census-fair : (near : Bool) (R : Rule) (G : Generation) (b : ℕ) → IsFair (census_of near R G b)
unfolding census_of
census-fair near R G b = census-found-fair near R b (ash_onset R G b) (ash_of R b (generation R G b))

unless-fair : (outcome : Outcome) (large : Option ℕ) → IsFair outcome → IsFair (unless_large outcome large)
unless-fair outcome Nothing h = h
unless-fair outcome (Some n) h = tt

growing-fair : (told : Option (List Engines)) (outcome : Outcome) → ((engines : List Engines) → told ≡ Some engines → IsFairGrowth engines) → IsFair outcome
    → IsFair (growing_or told outcome)
growing-fair Nothing outcome grown h = h
growing-fair (Some engines) outcome grown h = grown engines refl

outcome-fair : (question : Question) (R : Rule) (G : Generation) → IsFair (outcome_to question R G)
outcome-fair (Settles bound cells) R G = unless-fair (answers.outcome_of R G bound) _ (settled-fair R G bound)
outcome-fair (Objects bound cells near horizon) R G =
    let c = allowed_bound cells R G bound in
    growing-fair (growth_told near R (min horizon c) (generation R G c)) (outcome_unless_large cells R G (3 * bound) (fallen_of near R G bound))
    (growth-fair near R (min horizon c) (generation R G c))
    (unless-fair (fallen_of near R G bound) (first_past cells R G (3 * bound))
    (one_of_two IsFair (answers.outcome_of R G (2 * bound)) (census_of near R G bound) (settled-fair R G (2 * bound)) (census-fair near R G bound)))

answer-to-fair : (question : Question) (read : Result Picture RleFault) → IsNumbered read → IsFairAnswer (answer_to question read)
answer-to-fair question (Ok pattern) few = outcome-fair question pattern.rule pattern.cells
answer-to-fair question (Err fault) few = few

question-fair : (question : Question) (text : List ℕ) → IsFairAnswer (answer_to_question question text)
unfolding answer_to_question
question-fair question text = answer-to-fair question (picture_of (reading text)) (text-numbered text)

pub entry-fair : (question : Question) (e : Entry) → IsFairAnswer (answer_to_entry question e)
unfolding answer_to_entry
entry-fair question e =
    elim e.is_lost as (λ v. IsFairAnswer (cond v (Refused 0) (answer_to_question question e.text))) [
      | true ↦ omega arith
      | false ↦ question-fair question e.text
    ]
