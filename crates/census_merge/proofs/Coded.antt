-- The codes of answers have no blank.
use Rattle.std.proofs.Common.{ℕ, ◌*◌, min, Bool, true, false, cond, not, Option, Some, None, Result, Ok, Err, List, [], ◌∷◌, map, count_by, replicate}
use Rattle.std.specs.Prelude.{⊤, option_map}
use Rattle.std.specs.List.{AllByRecursion as Each, fold}
use Rattle.std.specs.declared.cmp.Ordering.{Ordering}
use Rattle.std.specs.declared.cmp.Ordering.TheVariants.{Less, Equal, Greater}
use Rattle.census_bundle.specs.declared.bundle.Entry.{Entry}
use Rattle.census_format.specs.Lines.{answer_to_entry}
use Rattle.census_format.specs.Objects.{Object, distinct_elements, object, objects, outcome_objects, part_objects, tally}
use Rattle.life_answer.specs.Answers.{outcome_at, outcome_from, outcome_of}
use Rattle.life_answer.specs.Counted.{code_bound, counted_of}
use Rattle.life_answer.specs.Census.{ash_onset, census_found, census_of, code_found, counted_parts, fallen_of, part_code, parts_found}
use Rattle.life_answer.specs.Growing.{allowed_bound, growing_or}
use Rattle.life_answer.specs.Limited.{first_past, outcome_unless_large, unless_large}
use Rattle.life_answer.specs.Parts.{with_code_by_order, with_code}
use Rattle.life_answer.specs.Questions.{answer_to, answer_to_question, outcome_to}
use Rattle.life_answer.specs.declared.finding.Answer.{Answer}
use Rattle.life_answer.specs.declared.finding.Answer.TheVariants.{Found, Refused}
use Rattle.life_answer.specs.declared.finding.Outcome.{Outcome}
use Rattle.life_answer.specs.declared.finding.Outcome.TheVariants.{Recurs, Ash}
use Rattle.life_answer.specs.declared.part.Part.{Part}
use Rattle.life_answer.specs.declared.question.Question.{Question}
use Rattle.life_answer.specs.declared.question.Question.TheVariants.{Objects, Settles}
use Rattle.life_answer.specs.declared.tale.Engines.{Engines}
use Rattle.life_answer.specs.Told.{growth_told, told_of_engines}
use Rattle.life_growth.specs.Fates.Decided.{growth_of}
use Rattle.life_objects.specs.Decided.Decided.{ash_of}
use Rattle.life_model.specs.Evolution.{generation}
use Rattle.life_model.specs.Generation.{Generation}
use Rattle.life_model.specs.Rule.{Rule}
use Rattle.life_cells.specs.TextOrder.{shorter_cmp}
use Rattle.life_text.specs.Picture.{Picture}
use Rattle.life_text.specs.declared.rle.RleFault.{RleFault}
use Rattle.census_merge.proofs.Tales.{told-holds}
use Rattle.census_merge.proofs.CodeBodies.{code-solid}
use Rattle.census_merge.proofs.OneOrMore.{one_of_two}
use Rattle.census_merge.proofs.Solid.{each-append, each-filter, each-map, each-replicate}
use Rattle.census_merge.specs.Lawful.{IsCoded, IsCodedAnswer, IsSolid, IsSolidEngines, IsSolidPart}

pub parts-solid : (outcome : Outcome) → IsCoded outcome → Each IsSolidPart (parts_found outcome)
parts-solid (Ash onset parts) h = h
parts-solid _ h = tt

at-coded : (R : Rule) (G : Generation) (onset : ℕ) (period : Option ℕ) → IsCoded (outcome_at R G onset period)
at-coded R G onset None = tt
at-coded R G onset (Some period) = code-solid R _ period _

from-coded : (R : Rule) (G : Generation) (b : ℕ) (onset : Option ℕ) → IsCoded (outcome_from R G b onset)
from-coded R G b None = tt
from-coded R G b (Some onset) = at-coded R G onset _

outcome-coded : (R : Rule) (G : Generation) (b : ℕ) → IsCoded (outcome_of R G b)
unfolding outcome_of
outcome-coded R G b = from-coded R G b _

found-solid : (outcome : Outcome) → IsCoded outcome → IsSolid (code_found outcome)
found-solid (Recurs onset period dx dy code) h = h
found-solid _ h = tt

beside-solid : (order : Ordering) (code : List ℕ) (part : Part) (parts rest : List Part)
    → IsSolid code → Each IsSolidPart (part ∷ parts) → Each IsSolidPart rest → Each IsSolidPart (with_code_by_order order code part parts rest)
beside-solid Less code part parts rest h k l = (h, k)
beside-solid Equal code part parts rest h k l = (k.0, k.1)
beside-solid Greater code part parts rest h k l = (k.0, l)

with-solid : (code : List ℕ) (parts : List Part) → IsSolid code → Each IsSolidPart parts → Each IsSolidPart (with_code code parts)
with-solid code [] h k = (h, tt)
with-solid code (part ∷ parts) h k =
    beside-solid (shorter_cmp code part.code) code part parts (with_code code parts) h k (with-solid code parts h k.1)

counted-solid : (codes : List (List ℕ)) (parts : List Part) → Each IsSolid codes → Each IsSolidPart parts
    → Each IsSolidPart (fold (λ parts code. with_code code parts) parts codes)
counted-solid [] parts h k = k
counted-solid (code ∷ codes) parts h k = counted-solid codes (with_code code parts) h.1 (with-solid code parts h.0 k)

counted-parts-solid : (near : Bool) (R : Rule) (b : ℕ) (objects : List Generation) → Each IsSolidPart (counted_parts near R b objects)
counted-parts-solid near R b objects =
    let sets = counted_of near R b objects in
    let c = code_bound b in
    counted-solid (map (part_code R c) sets) [] (each-map IsSolid (part_code R c) (λ P. found-solid (outcome_of R P c) (outcome-coded R P c)) sets) tt

census-found-coded : (near : Bool) (R : Rule) (b onset : ℕ) (objects : Option (List Generation))
    → IsCoded (census_found near R b onset objects)
census-found-coded near R b onset None = tt
census-found-coded near R b onset (Some objects) = counted-parts-solid near R b objects

census-coded : (near : Bool) (R : Rule) (G : Generation) (b : ℕ) → IsCoded (census_of near R G b)
unfolding census_of
census-coded near R G b = census-found-coded near R b (ash_onset R G b) (ash_of R b (generation R G b))

unless-coded : (outcome : Outcome) (large : Option ℕ) → IsCoded outcome → IsCoded (unless_large outcome large)
unless-coded outcome None h = h
unless-coded outcome (Some n) h = tt

-- the codes of what is reported of growth have no blank
abbrev AreSolidEngines : Option (List Engines) → Type 0
AreSolidEngines None = ⊤
AreSolidEngines (Some told) = Each IsSolidEngines told

growth-solid : (near : Bool) (R : Rule) (b : ℕ) (G : Generation) → AreSolidEngines (growth_told near R b G)
unfolding growth_told
growth-solid near R b G = by-growth (growth_of R b G)
  where
    by-growth : (found : Option (List Generation × Generation)) → AreSolidEngines (option_map (λ growth. told_of_engines near R b growth.0) found)
    by-growth None = tt
    by-growth (Some growth) = told-holds (Each IsSolidPart) near R b tt (counted-parts-solid near R b) growth.0

growing-coded : (told : Option (List Engines)) (outcome : Outcome) → AreSolidEngines told → IsCoded outcome → IsCoded (growing_or told outcome)
growing-coded None outcome h k = k
growing-coded (Some told) outcome h k = h

outcome-to-coded : (question : Question) (R : Rule) (G : Generation) → IsCoded (outcome_to question R G)
outcome-to-coded (Settles bound cells) R G = unless-coded (outcome_of R G bound) _ (outcome-coded R G bound)
outcome-to-coded (Objects bound cells near horizon) R G =
    let c = allowed_bound cells R G bound in
    growing-coded (growth_told near R (min horizon c) (generation R G c)) (outcome_unless_large cells R G (3 * bound) (fallen_of near R G bound))
    (growth-solid near R (min horizon c) (generation R G c))
    (unless-coded (fallen_of near R G bound) (first_past cells R G (3 * bound))
    (one_of_two IsCoded (outcome_of R G (2 * bound)) (census_of near R G bound) (outcome-coded R G (2 * bound)) (census-coded near R G bound)))

answer-to-coded : (question : Question) (read : Result Picture RleFault) → IsCodedAnswer (answer_to question read)
answer-to-coded question (Ok pattern) = outcome-to-coded question pattern.rule pattern.cells
answer-to-coded question (Err fault) = tt

question-coded : (question : Question) (text : List ℕ) → IsCodedAnswer (answer_to_question question text)
unfolding answer_to_question
question-coded question text = answer-to-coded question _

pub entry-coded : (question : Question) (e : Entry) → IsCodedAnswer (answer_to_entry question e)
unfolding answer_to_entry
entry-coded question e =
    elim e.is_lost as (λ v. IsCodedAnswer (cond v (Refused 0) (answer_to_question question e.text))) [
      | true ↦ tt
      | false ↦ question-coded question e.text
    ]

abbrev pub IsSolidObject : Object → Type 0
IsSolidObject o = IsSolid o.code

parts-coded : (rule : Rule) (parts : List Part) → Each IsSolidPart parts → Each IsSolidObject (part_objects rule parts)
parts-coded rule [] h = tt
parts-coded rule (part ∷ parts) h =
    each-append IsSolidObject (replicate part.count (object rule part.code)) (part_objects rule parts)
    (each-replicate IsSolidObject part.count (object rule part.code) h.0) (parts-coded rule parts h.1)

outcome-objects-coded : (rule : Rule) (outcome : Outcome) → IsCoded outcome → Each IsSolidObject (outcome_objects rule outcome)
outcome-objects-coded rule (Recurs onset period dx dy code) h = (h, tt)
outcome-objects-coded rule (Ash onset parts) h = parts-coded rule parts h
outcome-objects-coded rule _ h = tt

objects-coded : (found : List Answer) → Each IsCodedAnswer found → Each IsSolidObject (objects found)
objects-coded [] h = tt
objects-coded (Found rule finding ∷ found) h =
    each-append IsSolidObject (outcome_objects rule finding.outcome) (objects found) (outcome-objects-coded rule finding.outcome h.0) (objects-coded found h.1)
objects-coded (Refused number ∷ found) h = objects-coded found h.1

pub distinct-each : {A : Type 0} (P : A → Type 0) (same : A → A → Bool) (xs : List A) → Each P xs → Each P (distinct_elements same xs)
distinct-each P same [] h = tt
distinct-each P same (x ∷ xs) h = (h.0, each-filter P (λ y. not (same x y)) (distinct_elements same xs) (distinct-each P same xs h.1))

pub counted-each : {A : Type 0} (P : A → Type 0) (f : A → ℕ) (xs : List A) → Each P xs → Each (λ (x : A × ℕ). P x.0) (map (λ x. (x, f x)) xs)
counted-each P f [] h = tt
counted-each P f (x ∷ xs) h = (h.0, counted-each P f xs h.1)

pub tally-coded : (same : Object → Object → Bool) (found : List Answer) → Each IsCodedAnswer found
    → Each (λ (counted : Object × ℕ). IsSolidObject counted.0) (tally same (objects found))
tally-coded same found coded =
    counted-each IsSolidObject (λ x. count_by (same x) (objects found)) (distinct_elements same (objects found))
    (distinct-each IsSolidObject same (objects found) (objects-coded found coded))
