-- What is found of patterns whose objects are asked for has numbers in the range of a line.
use Rattle.std.proofs.Common.{◌≡◌, ℕ, suc, ◌+◌, ◌*◌, ◌<◌, ◌≤◌, ◌^◌, min, Bool, true, false, cond, Option, Some, None, Result, Ok, Err, List, [], ◌∷◌, length, map, slice_get, inl, inr, refl, sym, ap, subst, ◌∙◌, arith}
use Rattle.std.specs.List.{All, AllByRecursion as Each}
use Rattle.std.proofs.lemmas.List.{length-append, length-map}
use Rattle.census_bundle.specs.Sizes.{IsWithinCounts, count_limit}
use Rattle.census_bundle.specs.declared.bundle.Entry.{Entry}
use Rattle.census_bundle.specs.declared.bundle.Folder.{Folder}
use Rattle.census_format.specs.Lines.{answer_to_entry, answers}
use Rattle.census_format.specs.Objects.{objects, outcome_objects}
use Rattle.census_format.proofs.AshParts.{length-part_objects}
use Rattle.life_answer.specs.Answers.{outcome_of, recurrence_outcome}
use Rattle.life_answer.specs.Census.{ash_onset, census_found, census_of, counted_parts, fallen_of, part_code, parts_found}
use Rattle.life_answer.specs.Counted.{code_bound, counted_of}
use Rattle.life_answer.specs.Limited.{first_past, unless_large}
use Rattle.life_answer.specs.Parts.{counted_codes, objects_in}
use Rattle.life_answer.specs.Questions.{IsAnswered, answer_to, answer_to_question, finding_to, growth_horizon_limit}
use Rattle.life_answer.specs.declared.finding.Answer.{Answer}
use Rattle.life_answer.specs.declared.finding.Answer.TheVariants.{Found, Refused}
use Rattle.life_answer.specs.declared.finding.Outcome.{Outcome}
use Rattle.life_answer.specs.declared.finding.Outcome.TheVariants.{Recurs, Ash}
use Rattle.life_answer.specs.declared.question.Question.{Question}
use Rattle.life_answer.specs.declared.question.Question.TheVariants.{Objects}
use Rattle.life_answer.proofs.Findings.{settled_or_not}
use Rattle.life_answer.proofs.Limits.{past_within}
use Rattle.life_answer.proofs.Onsets.{ash_onset-within}
use Rattle.life_answer.proofs.Tallying.{counted_all}
use Rattle.life_cells.proofs.Places.{generation_within, place_of}
use Rattle.life_cells.specs.Limits.{IsWithin}
use Rattle.life_cells.specs.Readings.{cell_of_pair}
use Rattle.life_objects.specs.Decided.Decided.{ash_of}
use Rattle.life_objects.proofs.DecidedLemmas.Deciding.{ash_if_found}
use Rattle.life_model.specs.Cell.{Cell}
use Rattle.life_model.specs.Evolution.{generation}
use Rattle.life_model.specs.Generation.{Generation, cells, contains, from_list, size}
use Rattle.life_model.specs.Recurrence.{Recurrence}
use Rattle.life_model.specs.Rule.{Rule}
use Rattle.life_model.proofs.Generations.{cells-from_list}
use Rattle.life_objects.specs.Limits.{objects_bound_limit}
use Rattle.life_text.specs.Picture.{picture_of}
use Rattle.life_text.specs.Rle.{Token, body_tokens, cells_after, first_fault, header_rule, unless_fault, with_body}
use Rattle.life_text.specs.declared.rle.RleFault.{RleFault}
use Rattle.life_text.proofs.PictureLemmas.{placed_rises, placed_within}
use Rattle.life_text.proofs.RisingLemmas.{meaning_rises}
use Rattle.census_readback.specs.Limits.{bound_limit, cell_limit, period_limit}
use Rattle.life_answer.specs.Growing.{allowed_bound, growing_or}
use Rattle.life_answer.specs.Told.{growth_told}
use Rattle.life_answer.specs.declared.tale.Engines.{Engines}
use Rattle.life_answer.proofs.Growing.{allowed_within}
use Rattle.census_merge.specs.Ranges.{FitsOutcome, InRange, IsToldAnswer, IsToldFolder}
use Rattle.census_merge.proofs.BoundsLemmas.Codes.{counted-coded}
use Rattle.census_merge.proofs.BoundsLemmas.Early.{IsEarly, numbers-lawful, settled-early}
use Rattle.census_merge.proofs.BoundsLemmas.GrowthRanges.{FitsGrowth, growth-fits}
use Rattle.census_merge.proofs.BoundsLemmas.CountedCells.{few_counted}
use Rattle.census_merge.proofs.BoundsLemmas.SettledRanges.{fault-small, found-told}
use Rattle.census_merge.proofs.BoundsLemmas.Standing.{few-meant}
use Rattle.census_merge.proofs.OneOrMore.{one_of_two}
use Rattle.census_merge.proofs.Solid.{each-map}

-- ---- what is found of a set

-- the outcome can be reported, has at most 2^48 objects, and is found by the greatest bound
abbrev IsRanged : Outcome → Type 0
IsRanged outcome = FitsOutcome outcome × (objects_in (parts_found outcome) ≤ 2 ^ 48) × IsEarly outcome

abbrev IsRangedAnswer : Answer → Type 0
IsRangedAnswer (Found rule finding) = (finding.population ≤ cell_limit) × IsRanged finding.outcome
IsRangedAnswer (Refused number) = number < 2 ^ 64

unless-ranged : (found : Outcome) (large : Option ℕ) → IsRanged found
    → ((n : ℕ) → large ≡ Some n → n ≤ bound_limit) → IsRanged (unless_large found large)
unless-ranged found None h early = h
unless-ranged found (Some n) h early = let first = early n refl in (((omega (arith, first), tt), tt, tt), omega arith, first)

-- what recurs has not fallen apart into parts
parts_of_settled : (R : Rule) (G : Generation) (r : Recurrence) → objects_in (parts_found (recurrence_outcome R G r)) ≡ 0
parts_of_settled R G r = refl

no_parts : (R : Rule) (G : Generation) (b : ℕ) → objects_in (parts_found (outcome_of R G b)) ≡ 0
no_parts R G b = elim (settled_or_not R G b) [
  | inl some ↦ ap (λ o. objects_in (parts_found o)) some.found ∙ parts_of_settled R G some.recurrence
  | inr none ↦ ap (λ o. objects_in (parts_found o)) none.found
]

module _ (R : Rule) (G : Generation) (b : ℕ) (few : b ≤ objects_bound_limit) (within : All (IsWithin 0) (cells G)) (small : size G ≤ cell_limit) where
  abbrev last : Generation
  last = generation R G b

  within_last : (c : Cell) → contains last c ≡ true → IsWithin b c
  within_last =
      place_of b last
      (subst (λ k. All (IsWithin k) (cells last)) (let e : 0 + b ≡ b = omega arith in e) (generation_within R 0 G within b))

  ash-ranged : (near : Bool) (parts : List Generation) → ash_of R b last ≡ Some parts
      → IsRanged (Ash (ash_onset R G b) (counted_parts near R b parts))
  ash-ranged near parts e =
      let ash = ash_if_found R b last parts e in
      let sets = counted_of near R b parts in
      let all = map (part_code R (code_bound b)) sets in
      let most : length sets ≤ 2 ^ 48 = few_counted R b near last parts ash b (omega arith) within_last in
      let counted : objects_in (counted_codes all) ≡ length all = counted_all all in
      let long : length all ≡ length sets = length-map sets (part_code R (code_bound b)) in
      let count : objects_in (counted_codes all) ≤ 2 ^ 48 = omega arith in
      let fits : objects_in (counted_codes all) < 2 ^ 64 = omega arith in
      let by_then = ash_onset-within R G b in
      let early : ash_onset R G b ≤ bound_limit = omega arith in
      (((omega (arith, early), (fits, tt)), counted-coded R b near parts ash.objects, tt), count, early)

  found-ranged : (near : Bool) (o : Option (List Generation)) → ash_of R b last ≡ o
      → IsRanged (census_found near R b (ash_onset R G b) o)
  found-ranged near None e = ((tt, tt, tt), omega arith, tt)
  found-ranged near (Some parts) e = ash-ranged near parts e

  census-ranged : (near : Bool) → IsRanged (census_of near R G b)
  unfolding census_of
  census-ranged near = found-ranged near (ash_of R b last) refl

  -- what recurs within twice the bound can be reported too
  settled-ranged : IsRanged (outcome_of R G (2 * b))
  settled-ranged = (
    found-told R G (2 * b) (record { stands = place_of 0 G within; few = small }) (omega arith),
    let none = no_parts R G (2 * b) in omega arith,
    settled-early R G (2 * b) (omega arith),
  )

  fallen-ranged : (near : Bool) → IsRanged (fallen_of near R G b)
  fallen-ranged near = one_of_two IsRanged (outcome_of R G (2 * b)) (census_of near R G b) settled-ranged (census-ranged near)

  -- what is reported of growth goes before what was found
  growing-ranged : (told : Option (List Engines)) (found : Outcome) → ((engines : List Engines) → told ≡ Some engines → FitsGrowth engines)
      → IsRanged found → IsRanged (growing_or told found)
  growing-ranged None found grown h = h
  growing-ranged (Some engines) found grown h =
      let fits = grown engines refl in
      (((fits.few, tt), tt, fits.each), omega arith, tt)

  finding-ranged : (limit : Option ℕ) (near : Bool) (horizon : ℕ) → horizon ≤ growth_horizon_limit
      → IsRangedAnswer (Found R (finding_to (Objects b limit near horizon) R G))
  finding-ranged limit near horizon far =
      let c = allowed_bound limit R G b in
      let early = allowed_within limit R G b in
      let young : c ≤ objects_bound_limit = omega arith in
      let soon : min horizon c ≤ period_limit = omega arith in (
        small,
        growing-ranged (growth_told near R (min horizon c) (generation R G c)) (unless_large (fallen_of near R G b) (first_past limit R G (3 * b)))
            (growth-fits R near (min horizon c) c soon young (generation R G c)
            (subst (λ k. All (IsWithin k) (cells (generation R G c))) (let e : 0 + c ≡ c = omega arith in e) (generation_within R 0 G within c)))
            (unless-ranged (fallen_of near R G b) (first_past limit R G (3 * b)) (fallen-ranged near)
            (λ n past. let first : n ≤ 3 * b = past_within R G (3 * b) limit n past in omega arith)),
      )

-- ---- what is found of a text

module _ (bound : ℕ) (limit : Option ℕ) (near : Bool) (horizon : ℕ) (answered : IsAnswered (Objects bound limit near horizon)) where
  abbrev question : Question
  question = Objects bound limit near horizon

  body-ranged : (r : Rule) (ts : List Token) (o : Option RleFault) → first_fault [] ts ≡ o
      → IsRangedAnswer (answer_to question (picture_of (unless_fault o (record { rule = r; cells = cells_after [] ts }))))
  body-ranged r ts None e =
      let places = cells_after [] ts in
      let rises = meaning_rises ts e in
      finding-ranged r (from_list (map cell_of_pair places)) bound answered.1
      (subst (All (IsWithin 0)) (sym (cells-from_list (map cell_of_pair places) (placed_rises 0 0 places rises)))
      (placed_within 0 0 places rises))
      (few-meant ts e) limit near horizon answered.2.1
  body-ranged r ts (Some fault) e = fault-small fault

  rule-ranged : (r : Result Rule RleFault) (ts : List Token) → IsRangedAnswer (answer_to question (picture_of (with_body r ts)))
  rule-ranged (Ok r) ts = body-ranged r ts (first_fault [] ts) refl
  rule-ranged (Err fault) ts = fault-small fault

  text-ranged : (text : List ℕ) → IsRangedAnswer (answer_to_question question text)
  unfolding answer_to_question
  text-ranged text = rule-ranged (header_rule text) (body_tokens text)

  entry-ranged : (e : Entry) → IsRangedAnswer (answer_to_entry question e)
  unfolding answer_to_entry
  entry-ranged e =
      elim e.is_lost as (λ v. IsRangedAnswer (cond v (Refused 0) (answer_to_question question e.text))) [
        | true ↦ omega arith
        | false ↦ text-ranged e.text
      ]

answer-told : (found : Answer) → IsRangedAnswer found → IsToldAnswer found
answer-told (Found rule finding) h = (numbers-lawful finding.population finding.outcome h.0 h.1.2, h.1.0)
answer-told (Refused number) h = h

pub objects_are_told : (bound : ℕ) (limit : Option ℕ) (near : Bool) (horizon : ℕ) (text : List ℕ) → IsAnswered (Objects bound limit near horizon)
    → IsToldAnswer (answer_to_question (Objects bound limit near horizon) text)
objects_are_told bound limit near horizon text answered =
    answer-told (answer_to_question (Objects bound limit near horizon) text) (text-ranged bound limit near horizon answered text)

-- ---- what is found of a bundle's patterns

few-parts : (rule : Rule) (outcome : Outcome) → objects_in (parts_found outcome) ≤ 2 ^ 48 → length (outcome_objects rule outcome) ≤ 2 ^ 48
few-parts rule (Recurs onset period dx dy code) h = omega arith
few-parts rule (Ash onset parts) h = let each = length-part_objects rule parts in omega (arith, each, h)
few-parts rule _ h = omega arith

few-objects : (found : List Answer) → Each IsRangedAnswer found → length (objects found) ≤ 2 ^ 48 * length found
few-objects [] h = omega arith
few-objects (Found rule finding ∷ found) h =
    let rest = few-objects found h.1 in
    let here = few-parts rule finding.outcome h.0.1.1 in
    let long = length-append (outcome_objects rule finding.outcome) (objects found) in
    omega arith
few-objects (Refused number ∷ found) h = let rest = few-objects found h.1 in omega arith

all-told : (found : List Answer) → Each IsRangedAnswer found → Each IsToldAnswer found
all-told [] h = tt
all-told (a ∷ found) h = (answer-told a h.0, all-told found h.1)

module _ (bound : ℕ) (limit : Option ℕ) (near : Bool) (horizon : ℕ) (answered : IsAnswered (Objects bound limit near horizon)) where
  folder-told : (f : Folder) → length f.entries ≤ count_limit → IsToldFolder (Objects bound limit near horizon) f
  folder-told f small =
      let found = answers (Objects bound limit near horizon) f.entries in
      let each = each-map IsRangedAnswer (answer_to_entry (Objects bound limit near horizon)) (entry-ranged bound limit near horizon answered) f.entries in
      let most : length (objects found) ≤ 2 ^ 48 * length found = few-objects found each in
      let long : length found ≡ length f.entries = length-map f.entries (answer_to_entry (Objects bound limit near horizon)) in
      let fits : length (objects found) < 2 ^ 64 = omega arith in
      (all-told found each, fits)

  folders-told : (b : List Folder) → ((j : ℕ) (f : Folder) → slice_get b j ≡ Some f → length f.entries ≤ count_limit)
      → InRange b (Objects bound limit near horizon)
  folders-told [] small = tt
  folders-told (f ∷ b) small = (folder-told f (small 0 f refl), folders-told b (λ j g. small (suc j) g))

  pub objects_in_range : (b : List Folder) → IsWithinCounts b → InRange b (Objects bound limit near horizon)
  objects_in_range b small = folders-told b small.entries
