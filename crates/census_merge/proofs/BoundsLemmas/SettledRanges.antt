-- What is found of patterns that are asked whether they recur has numbers in the range of a line.
use Rattle.std.proofs.Common.{◌≡◌, ℕ, suc, ◌+◌, ◌<◌, ◌≤◌, ◌^◌, true, false, cond, ⊎_elim, Option, Some, None, Result, Ok, Err, List, [], ◌∷◌, ◌++◌, length, slice_get, sym, refl, arith, subst}
use Rattle.std.specs.Prelude.{⊤}
use Rattle.std.specs.List.{AllByRecursion as Each}
use Rattle.std.proofs.lemmas.List.{length-append, length-map}
use Rattle.census_bundle.specs.Sizes.{IsWithinCounts, count_limit}
use Rattle.census_bundle.specs.declared.bundle.Entry.{Entry}
use Rattle.census_bundle.specs.declared.bundle.Folder.{Folder}
use Rattle.census_format.specs.Lines.{answer_to_entry, answers}
use Rattle.census_format.specs.Objects.{objects, outcome_objects}
use Rattle.life_answer.proofs.Findings.{settled_or_not}
use Rattle.life_answer.proofs.Limits.{first_past-is, past_within}
use Rattle.life_answer.proofs.Texts.{answer-no_ash}
use Rattle.life_answer.specs.Answers.{outcome_of, recurrence_outcome}
use Rattle.life_answer.specs.Apgcode.{bodies, code_of, prefix}
use Rattle.life_answer.specs.Limited.{first_past, outcome_unless_large, unless_large}
use Rattle.life_answer.specs.Questions.{IsAnswered, answer_to, answer_to_question, outcome_to, settles_bound_limit}
use Rattle.life_answer.specs.declared.finding.Answer.{Answer}
use Rattle.life_answer.specs.declared.finding.Answer.TheVariants.{Found, Refused}
use Rattle.life_answer.specs.declared.finding.Finding.{Finding}
use Rattle.life_answer.specs.declared.finding.Outcome.{Outcome}
use Rattle.life_answer.specs.declared.finding.Outcome.TheVariants.{Recurs, Ash}
use Rattle.life_answer.specs.declared.question.Question.TheVariants.{Settles}
use Rattle.life_model.proofs.Recurrences.{onset-period-least}
use Rattle.life_model.specs.Cell.{Cell}
use Rattle.life_model.specs.Evolution.{generation}
use Rattle.life_model.specs.Generation.{Generation, size}
use Rattle.life_model.specs.Recurrence.{Recurrence, Settles as IsSettling}
use Rattle.life_model.specs.Rule.{Rule}
use Rattle.life_cells.specs.TextOrder.{least_text}
use Rattle.life_text.specs.Picture.{Picture, picture_of}
use Rattle.life_text.specs.Rle.{reading}
use Rattle.life_text.specs.declared.rle.RleFault.{RleFault}
use Rattle.life_text.specs.Faults.{fault_number}
use Rattle.life_text.proofs.FaultLemmas.{fault_number-most}
use Rattle.census_merge.specs.Ranges.{FitsOutcome, InRange, IsToldAnswer, IsToldFolder}
use Rattle.census_merge.proofs.Solid.{each-map}
use Rattle.census_merge.proofs.BoundsLemmas.Early.{numbers-lawful, settled-early, unless-early}
use Rattle.census_merge.proofs.BoundsLemmas.Standing.{IsTextual, IsTextualPicture, Stands, generation-stands, moved-fits, text-textual}

-- ---- codes and faults

after-some : (xs : List ℕ) (y : ℕ) (ys : List ℕ) → 0 < length ((xs ++ y ∷ []) ++ ys)
after-some [] y ys = omega arith
after-some (x ∷ xs) y ys = omega arith

-- the code of what recurs is not empty
pub code-some : (R : Rule) (H : Generation) (period : ℕ) (d : Cell) → 0 < length (code_of R H period d)
unfolding code_of
code-some R H period d = after-some (prefix (size H) period d) 95 (least_text (bodies R H period))

pub fault-small : (fault : RleFault) → fault_number fault < 2 ^ 64
fault-small fault = let few = fault_number-most fault in omega arith

-- ---- objects

-- the pattern has not been found to have fallen apart
abbrev IsWhole : Outcome → Type 0
IsWhole (Ash onset parts) = ⊥
IsWhole _ = ⊤

abbrev IsWholeAnswer : Answer → Type 0
IsWholeAnswer (Found rule finding) = IsWhole finding.outcome
IsWholeAnswer (Refused number) = ⊤

whole-outcome : (rule : Rule) (outcome : Outcome) → IsWhole outcome → length (outcome_objects rule outcome) ≤ 1
whole-outcome rule (Recurs onset period dx dy code) h = omega arith
whole-outcome rule (Ash onset parts) h = absurd h
whole-outcome rule _ h = omega arith

-- patterns that have not fallen apart are at most one object each
whole-objects : (found : List Answer) → Each IsWholeAnswer found → length (objects found) ≤ length found
whole-objects [] h = omega arith
whole-objects (Found rule finding ∷ found) h =
    let most = whole-objects found h.1 in
    let one = whole-outcome rule finding.outcome h.0 in
    let all = length-append (outcome_objects rule finding.outcome) (objects found) in
    omega (arith, most, one, all)
whole-objects (Refused number ∷ found) h = let most = whole-objects found h.1 in omega (arith, most)

-- ---- what is found of a set

module _ (R : Rule) (G : Generation) (b : ℕ) (textual : IsTextual G) where
  settled-told : (r : Recurrence) → b ≤ settles_bound_limit → IsSettling R G b r → FitsOutcome (recurrence_outcome R G r)
  settled-told r low s =
      let onset = r.onset in
      let period = r.period in
      let both = onset-period-least R G b r s b onset s.settles in
      let here : Stands (onset + 0) (generation R G onset) = generation-stands R 0 G textual.stands onset in
      let later = generation-stands R (onset + 0) (generation R G onset) here period in
      let again = subst (Stands (period + (onset + 0))) s.recurs.again later in
      let young : onset + 0 ≤ 4000000 = omega (arith, both, low) in
      let soon : period + (onset + 0) ≤ 4000000 = omega (arith, both, low) in
      let fits = moved-fits (onset + 0) (period + (onset + 0)) (generation R G onset) r.displacement young soon here again s.unmoved in
      let code = code-some R (generation R G onset) period r.displacement in
      ((omega (arith, both, low), (omega (arith, both, low), (fits.0, (fits.1, (code, tt))))), tt, tt)

  pub found-told : b ≤ settles_bound_limit → FitsOutcome (outcome_of R G b)
  found-told low = ⊎_elim
      (λ some. subst FitsOutcome (sym some.found) (settled-told some.recurrence low some.settles))
      (λ none. subst FitsOutcome (sym none.found) (tt, tt, tt))
      (settled_or_not R G b)

-- if what is found can be reported, so can it where a generation may be too large
module _ (R : Rule) (G : Generation) (last : ℕ) (short : last < 2 ^ 64)
    (found : Outcome) (told : FitsOutcome found) where
  past-told : (most : ℕ) (large : Option ℕ) → first_past (Some most) R G last ≡ large
      → FitsOutcome (unless_large found large)
  past-told most None e = told
  past-told most (Some n) e = let first = (first_past-is R G last most n).0 e in ((omega (arith, first.0, short), tt), tt, tt)

  pub limited-told : (limit : Option ℕ) → FitsOutcome (outcome_unless_large limit R G last found)
  limited-told None = told
  limited-told (Some most) = past-told most (first_past (Some most) R G last) refl

-- ---- what is found of a text

module _ (bound : ℕ) (cells : Option ℕ) (answered : IsAnswered (Settles bound cells)) where
  picture-told : (read : Result Picture RleFault) → IsTextualPicture read → IsToldAnswer (answer_to (Settles bound cells) read)
  picture-told (Ok pattern) textual =
      let told = found-told pattern.rule pattern.cells bound textual answered.1 in
      let short : bound < 2 ^ 64 = omega (arith, answered.1) in
      let early = unless-early (outcome_of pattern.rule pattern.cells bound) (first_past cells pattern.rule pattern.cells bound)
      (settled-early pattern.rule pattern.cells bound answered.1)
      (λ n past. let first = past_within pattern.rule pattern.cells bound cells n past in omega (arith, first, answered.1)) in (
        numbers-lawful (size pattern.cells) (outcome_to (Settles bound cells) pattern.rule pattern.cells) textual.few early,
        limited-told pattern.rule pattern.cells bound short (outcome_of pattern.rule pattern.cells bound) told cells,
      )
  picture-told (Err fault) textual = fault-small fault

  pub settled-is-told : (text : List ℕ) → IsToldAnswer (answer_to_question (Settles bound cells) text)
  unfolding answer_to_question
  settled-is-told text = picture-told (picture_of (reading text)) (text-textual text)

  -- ---- what is found of a bundle

  pub entry-is-told : (e : Entry) → IsToldAnswer (answer_to_entry (Settles bound cells) e)
  unfolding answer_to_entry
  entry-is-told e =
      elim e.is_lost as (λ v. IsToldAnswer (cond v (Refused 0) (answer_to_question (Settles bound cells) e.text))) [
        | true ↦ omega arith
        | false ↦ settled-is-told e.text
      ]

  -- no pattern has fallen apart
  whole-by : (text : List ℕ) (rule : Rule) (finding : Finding) (outcome : Outcome) → answer_to_question (Settles bound cells) text ≡ Found rule finding
      → finding.outcome ≡ outcome → IsWhole outcome
  whole-by text rule finding (Ash onset parts) e ash = answer-no_ash text bound cells rule finding onset parts e ash
  whole-by text rule finding _ e becomes = tt

  answer-whole : (text : List ℕ) (found : Answer) → answer_to_question (Settles bound cells) text ≡ found → IsWholeAnswer found
  answer-whole text (Found rule finding) e = whole-by text rule finding finding.outcome e refl
  answer-whole text (Refused number) e = tt

  entry-whole : (e : Entry) → IsWholeAnswer (answer_to_entry (Settles bound cells) e)
  unfolding answer_to_entry
  entry-whole e =
      elim e.is_lost as (λ v. IsWholeAnswer (cond v (Refused 0) (answer_to_question (Settles bound cells) e.text))) [
        | true ↦ tt
        | false ↦ answer-whole e.text (answer_to_question (Settles bound cells) e.text) refl
      ]

  folder-is-told : (f : Folder) → length f.entries ≤ count_limit → IsToldFolder (Settles bound cells) f
  folder-is-told f few =
      let found = answers (Settles bound cells) f.entries in
      let most = whole-objects found (each-map IsWholeAnswer (answer_to_entry (Settles bound cells)) entry-whole f.entries) in
      let count = length-map f.entries (answer_to_entry (Settles bound cells)) in
      (each-map IsToldAnswer (answer_to_entry (Settles bound cells)) entry-is-told f.entries, omega (arith, most, count, few))

  folders-are-told : (b : List Folder) → ((k : ℕ) (f : Folder) → slice_get b k ≡ Some f → length f.entries ≤ count_limit)
      → Each (IsToldFolder (Settles bound cells)) b
  folders-are-told [] few = tt
  folders-are-told (f ∷ b) few = (folder-is-told f (few 0 f refl), folders-are-told b (λ k g. few (suc k) g))

  -- the numbers found of a bundle's patterns are in the range of a line
  pub settled-in-range : (b : List Folder) → IsWithinCounts b → InRange b (Settles bound cells)
  settled-in-range b small = folders-are-told b small.entries
