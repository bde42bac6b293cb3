-- A pattern falls apart exactly if its answer says so.
use Rattle.std.proofs.Common.{◌≡◌, ℕ, ◌*◌, min, Bool, false, List, [], ◌∷◌, Option, inl, inr, Some, None, Result, Ok, Err, ℤ, refl, sym, ap, subst, ◌∙◌}
use Rattle.std.specs.List.Sorted.{IsPermutation}
use Rattle.std.proofs.lemmas.Bool.Decides.{eqb_tells}
use Rattle.census_bundle.specs.declared.bundle.Entry.{Entry}
use Rattle.life_answer.specs.Answers.{outcome_of as settled_outcome}
use Rattle.life_answer.specs.Census.{ash_onset, census_found, census_of, counted_parts, fallen_of, unless_one}
use Rattle.life_answer.specs.Growing.{allowed_bound}
use Rattle.life_answer.specs.Limited.{outcome_unless_large}
use Rattle.life_answer.specs.Told.{growth_told}
use Rattle.life_answer.specs.Parts.{objects_in, single}
use Rattle.life_answer.specs.Questions.{answer_to, answer_to_question, finding_to, outcome_to}
use Rattle.life_answer.specs.Answers.{finding_with}
use Rattle.life_answer.specs.declared.finding.Answer.{Answer}
use Rattle.life_answer.specs.declared.finding.Answer.TheVariants.{Found}
use Rattle.life_answer.specs.declared.finding.Finding.{Finding}
use Rattle.life_answer.specs.declared.finding.Outcome.{Outcome}
use Rattle.life_answer.specs.declared.finding.Outcome.TheVariants.{Ash, Grows, Large, Recurs, Unresolved}
use Rattle.life_answer.specs.declared.part.Part.{Part}
use Rattle.life_answer.specs.declared.question.Question.TheVariants.{Objects}
use Rattle.life_answer.specs.declared.tale.Engines.{Engines}
use Rattle.life_answer.proofs.Growing.{ash_answered, growing-else}
use Rattle.life_answer.proofs.OneParts.{found_as_one, more_reported, one_recurs, one_reported}
use Rattle.life_answer.proofs.Limits.{limited-else, limited-same}
use Rattle.life_answer.proofs.Texts.{answer-found, same_finding}
use Rattle.life_objects.specs.Decided.Decided.{ash_of}
use Rattle.life_objects.proofs.DecidedLemmas.Deciding.{ash_if_found}
use Rattle.life_objects.proofs.DecidedLemmas.Lasting.{parts_found}
use Rattle.life_model.specs.Evolution.{generation}
use Rattle.life_model.specs.Generation.{Generation}
use Rattle.life_model.specs.Rule.{Rule}
use Rattle.life_text.specs.declared.rle.RleFault.{RleFault}
use Rattle.life_text.specs.Picture.{Picture, picture_of}
use Rattle.life_text.specs.Rle.{reading}
use Rattle.census_format.specs.Lines.{answer_to_entry}
use Rattle.census_format.proofs.Lost.{found_kept, kept_answer}
use Rattle.census_merge.specs.Runs.Fallen.{FallsApart}

-- ---- what is found of a set that falls apart

census_some : (near : Bool) (R : Rule) (G : Generation) (b : ℕ) (found : List Generation) → ash_of R b (generation R G b) ≡ Some found
    → census_of near R G b ≡ Ash (ash_onset R G b) (counted_parts near R b found)
unfolding census_of
census_some near R G b found e = ap (census_found near R b (ash_onset R G b)) e

-- ---- what is reported of what has fallen apart

-- It is the census, or, of one part, how the pattern recurs from the same onset on, by the code of that part.
pub fallen_either : (near : Bool) (R : Rule) (G : Generation) (b onset : ℕ) (parts : List Part) → census_of near R G b ≡ Ash onset parts
    → (Holds : Outcome → Type 0) → Holds (Ash onset parts)
    → ((period : ℕ) (dx dy : ℤ) (code : List ℕ) → parts ≡ single code ∷ [] → Holds (Recurs onset period dx dy code))
    → Holds (fallen_of near R G b)
fallen_either near R G b onset parts found Holds ash recurs =
    let recurring = settled_outcome R G (2 * b) in
    subst Holds (ap (unless_one recurring) (sym found))
    (elim (eqb_tells (objects_in parts) 1) [
      | inl one ↦
          let q = one_recurs near R G b onset parts found one.1 in
          let r = q.2.recurrence in
          subst Holds (sym (one_reported recurring onset parts one.1 ∙ found_as_one R G b onset q.0 q.2))
          (recurs r.period r.displacement.0 r.displacement.1 q.0 q.1)
      | inr more ↦ subst Holds (sym (more_reported recurring onset parts more.1)) ash
    ])

-- ---- an outcome that says so

-- It says neither that the pattern is unresolved nor that a generation is too large nor that it grows.
record IsSettled (outcome : Outcome) : Type 0 where
  resolved : outcome ≡ Unresolved → ⊥
  small : (first : ℕ) → outcome ≡ Large first → ⊥
  no_growth : (lines : List Engines) → outcome ≡ Grows lines → ⊥

ash_settled : (onset : ℕ) (parts : List Part) → IsSettled (Ash onset parts)
ash_settled onset parts = record { resolved = λ e. cc; small = λ first e. cc; no_growth = λ lines e. cc }

recurs_settled : (onset period : ℕ) (dx dy : ℤ) (code : List ℕ) → IsSettled (Recurs onset period dx dy code)
recurs_settled onset period dx dy code = record { resolved = λ e. cc; small = λ first e. cc; no_growth = λ lines e. cc }

some_found : (near : Bool) (R : Rule) (b first : ℕ) (recurring outcome : Outcome) (o : Option (List Generation))
    → unless_one recurring (census_found near R b first o) ≡ outcome → IsSettled outcome → (found : List Generation) × (o ≡ Some found)
some_found near R b first recurring outcome None e settled = absurd (settled.resolved (sym e))
some_found near R b first recurring outcome (Some found) e settled = (found, refl)

ash_found : (near : Bool) (R : Rule) (G : Generation) (b : ℕ) (outcome : Outcome) → fallen_of near R G b ≡ outcome → IsSettled outcome
    → (found : List Generation) × (ash_of R b (generation R G b) ≡ Some found)
unfolding census_of
ash_found near R G b outcome e settled =
    some_found near R b (ash_onset R G b) (settled_outcome R G (2 * b)) outcome (ash_of R b (generation R G b)) e settled

-- what has fallen apart was found so before growth was looked for
fallen_before : (near : Bool) (most : Option ℕ) (R : Rule) (G : Generation) (bound horizon : ℕ) (outcome : Outcome)
    → outcome_to (Objects bound most near horizon) R G ≡ outcome → IsSettled outcome
    → outcome_unless_large most R G (3 * bound) (fallen_of near R G bound) ≡ outcome
fallen_before near most R G bound horizon outcome becomes settled =
    let c = allowed_bound most R G bound in
    growing-else (growth_told near R (min horizon c) (generation R G c))
    (outcome_unless_large most R G (3 * bound) (fallen_of near R G bound)) outcome becomes settled.no_growth

module _ (near : Bool) (bound : ℕ) (most : Option ℕ) (horizon : ℕ) (e : Entry) where
  abbrev pub answer_in : Answer
  answer_in = answer_to_entry (Objects bound most near horizon) e

  -- ---- a pattern that falls apart is said to

  -- the parts in the order in which they are found
  pub record IsSaid (f : FallsApart bound most e) : Type 0 where
    pub found : List Generation
    pub order : IsPermutation f.parts found
    pub is : answer_in ≡ Found f.rule (finding_with f.cells (fallen_of near f.rule f.cells bound))
    pub census : census_of near f.rule f.cells bound ≡ Ash (ash_onset f.rule f.cells bound) (counted_parts near f.rule bound found)

  pub to_say : (f : FallsApart bound most e) → IsSaid f
  to_say f =
      let parts = parts_found f.rule bound (generation f.rule f.cells bound) f.parts f.ash in
      record {
        found = parts.0;
        order = parts.2;
        is = kept_answer (Objects bound most near horizon) e f.kept
            ∙ answer-found (Objects bound most near horizon) e.text (record { rule = f.rule; cells = f.cells }) f.reads
            ∙ ap (λ o. Found f.rule (finding_with f.cells o))
            (ash_answered near f.rule f.cells most bound (ash_onset f.rule f.cells bound) horizon
            (counted_parts near f.rule bound parts.0) (census_some near f.rule f.cells bound parts.0 parts.1)
            ∙ limited-same f.rule f.cells (3 * bound) most (fallen_of near f.rule f.cells bound) f.small);
        census = census_some near f.rule f.cells bound parts.0 parts.1;
      }

  -- ---- and one that is said to, does

  pub answer_by : e.is_lost ≡ false → (r : Result Picture RleFault) → picture_of (reading e.text) ≡ r
      → answer_in ≡ answer_to (Objects bound most near horizon) r
  unfolding answer_to_question
  answer_by kept r read = kept_answer (Objects bound most near horizon) e kept ∙ ap (answer_to (Objects bound most near horizon)) read

  said_by : (rule : Rule) (finding : Finding) (outcome : Outcome) → answer_in ≡ Found rule finding → finding.outcome ≡ outcome
      → IsSettled outcome → (r : Result Picture RleFault) → picture_of (reading e.text) ≡ r → FallsApart bound most e
  said_by rule finding outcome is becomes settled (Err fault) read =
      let kept = found_kept (Objects bound most near horizon) e rule finding is in
      absurd (let fails = sym is ∙ answer_by kept (Err fault) read in cc)
  said_by rule finding outcome is becomes settled (Ok pattern) read =
      let R = pattern.rule in
      let G = pattern.cells in
      let kept = found_kept (Objects bound most near horizon) e rule finding is in
      let same = same_finding rule R finding (finding_to (Objects bound most near horizon) R G) (sym is ∙ answer_by kept (Ok pattern) read) in
      let asked : outcome_to (Objects bound most near horizon) R G ≡ outcome = ap (λ (f : Finding). f.outcome) (sym same) ∙ becomes in
      let fell = fallen_before near most R G bound horizon outcome asked settled in
      let small = limited-else R G (3 * bound) most (fallen_of near R G bound) outcome fell settled.small in
      let found = ash_found near R G bound outcome small.1 settled in
      record {
        rule = R;
        cells = G;
        kept = kept;
        reads = read;
        parts = found.0;
        ash = ash_if_found R bound (generation R G bound) found.0 found.1;
        small = small.0;
      }

  -- it is ash
  pub said : (rule : Rule) (finding : Finding) (onset : ℕ) (parts : List Part) → answer_in ≡ Found rule finding → finding.outcome ≡ Ash onset parts
      → FallsApart bound most e
  said rule finding onset parts is ash =
      said_by rule finding (Ash onset parts) is ash (ash_settled onset parts) (picture_of (reading e.text)) refl

  -- or it recurs
  pub said_one : (rule : Rule) (finding : Finding) (onset period : ℕ) (dx dy : ℤ) (code : List ℕ) → answer_in ≡ Found rule finding
      → finding.outcome ≡ Recurs onset period dx dy code → FallsApart bound most e
  said_one rule finding onset period dx dy code is recurs =
      said_by rule finding (Recurs onset period dx dy code) is recurs (recurs_settled onset period dx dy code)
      (picture_of (reading e.text)) refl
