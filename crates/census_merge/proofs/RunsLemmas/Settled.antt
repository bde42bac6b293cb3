-- What is said to recur where objects are asked for is said to recur so where it is asked which generation recurs.
use Rattle.std.proofs.Common.{◌≡◌, ℕ, ◌+◌, ◌≤◌, ℤ, Bool, List, ◌∷◌, Option, Some, None as Nothing, Result, Ok, Err, refl, sym, ap, ◌∙◌, arith}
use Rattle.census_bundle.specs.declared.bundle.Entry.{Entry}
use Rattle.census_format.specs.Lines.{answer_to_entry, pattern_row, pattern_rows, rows_behind, saying_rows}
use Rattle.census_format.proofs.Lost.{found_kept, kept_answer}
use Rattle.census_merge.specs.Runs.Settled.{IsNeverLarge, SaysOk}
use Rattle.census_merge.proofs.RunsLemmas.Fallen.{answer_by, answer_in}
use Rattle.census_rows.specs.declared.kinds.Value.{Value}
use Rattle.census_rows.specs.declared.kinds.Value.TheVariants.{Number}
use Rattle.life_answer.specs.Answers.{finding_with, outcome_of}
use Rattle.life_answer.specs.Questions.{finding_to, outcome_to}
use Rattle.life_answer.specs.declared.finding.Answer.{Answer}
use Rattle.life_answer.specs.declared.finding.Answer.TheVariants.{Found, Refused}
use Rattle.life_answer.specs.declared.finding.Finding.{Finding}
use Rattle.life_answer.specs.declared.finding.Outcome.{Outcome}
use Rattle.life_answer.specs.declared.finding.Outcome.TheVariants.{Ash, Grows, Large, Recurs, Unresolved}
use Rattle.life_answer.specs.declared.question.Question.TheVariants.{Objects, Settles}
use Rattle.life_answer.proofs.Limits.{limited-same}
use Rattle.life_answer.proofs.OneParts.{reported_recurs}
use Rattle.life_answer.proofs.Texts.{answer-found, same_finding}
use Rattle.life_model.specs.Rule.{Rule}
use Rattle.life_text.specs.declared.rle.RleFault.{RleFault}
use Rattle.life_text.specs.Picture.{Picture, picture_of}
use Rattle.life_text.specs.Rle.{reading}

nothing_there : (v : Value) → Nothing ≡ Some v → ⊥
nothing_there v e = cc

same_number : (m n : ℕ) → Some (Number m) ≡ Some (Number n) → m ≡ n
same_number m n e = cc

module _ (near : Bool) (bound : ℕ) (most : Option ℕ) (horizon : ℕ) (e : Entry) (later : ℕ) (limit : Option ℕ)
    (small : IsNeverLarge limit later e) where
  abbrev answer : Answer
  answer = answer_in near bound most horizon e

  abbrev of_run : Answer
  of_run = answer_to_entry (Settles later limit) e

  run_by : (rule : Rule) (finding : Finding) (onset period : ℕ) (dx dy : ℤ) (code : List ℕ) → answer ≡ Found rule finding
      → finding.outcome ≡ Recurs onset period dx dy code → onset + period ≤ later
      → (r : Result Picture RleFault) → picture_of (reading e.text) ≡ r → answer ≡ of_run
  run_by rule finding onset period dx dy code is becomes enough (Err fault) read =
      let kept = found_kept (Objects bound most near horizon) e rule finding is in
      absurd (let fails = sym is ∙ answer_by near bound most horizon e kept (Err fault) read in cc)
  run_by rule finding onset period dx dy code is becomes enough (Ok pattern) read =
      let R = pattern.rule in
      let G = pattern.cells in
      let kept = found_kept (Objects bound most near horizon) e rule finding is in
      let asked = answer_by near bound most horizon e kept (Ok pattern) read in
      let same = same_finding rule R finding (finding_to (Objects bound most near horizon) R G) (sym is ∙ asked) in
      let recurs : outcome_to (Objects bound most near horizon) R G ≡ Recurs onset period dx dy code =
      ap (λ (f : Finding). f.outcome) (sym same) ∙ becomes in
      let settled = reported_recurs near R G bound most horizon onset period dx dy code recurs later enough in
      let run : outcome_to (Settles later limit) R G ≡ outcome_of R G later =
      limited-same R G later limit (outcome_of R G later) (small pattern read) in
      asked
      ∙ ap (λ o. Found R (finding_with G o)) (recurs ∙ sym settled ∙ sym run)
      ∙ sym (answer-found (Settles later limit) e.text pattern read)
      ∙ sym (kept_answer (Settles later limit) e kept)

  by_outcome : (onset period : ℕ) (rule : Rule) (finding : Finding) (outcome : Outcome) → answer ≡ Found rule finding → finding.outcome ≡ outcome
      → SaysOk onset period (Found rule (record { population = finding.population; outcome = outcome })) → onset + period ≤ later
      → answer ≡ of_run
  by_outcome onset period rule finding (Recurs start length dx dy code) is becomes says enough =
      let from = same_number start onset says.has_onset in
      let after = same_number length period says.has_period in
      run_by rule finding start length dx dy code is becomes (omega (arith, from, after, enough)) (picture_of (reading e.text)) refl
  by_outcome onset period rule finding (Ash start parts) is becomes says enough = absurd (nothing_there (Number period) says.has_period)
  by_outcome onset period rule finding (Grows engines) is becomes says enough = absurd (nothing_there (Number period) says.has_period)
  by_outcome onset period rule finding Unresolved is becomes says enough = absurd (nothing_there (Number period) says.has_period)
  by_outcome onset period rule finding (Large first) is becomes says enough = absurd (nothing_there (Number period) says.has_period)

  by_answer : (onset period : ℕ) (a : Answer) → answer ≡ a → SaysOk onset period a → onset + period ≤ later → answer ≡ of_run
  by_answer onset period (Found rule finding) is says enough = by_outcome onset period rule finding finding.outcome is refl says enough
  by_answer onset period (Refused fault) is says enough = absurd (nothing_there (Number period) says.has_period)

  pub rows_of_run : (onset period : ℕ) → SaysOk onset period answer → onset + period ≤ later → (c i : ℕ)
      → pattern_rows (Objects bound most near horizon) c i e ≡ pattern_rows (Settles later limit) c i e
  unfolding saying_rows
  rows_of_run onset period says enough c i =
      ap (λ found. pattern_row c i found e.name ∷ rows_behind c i found) (by_answer onset period answer refl says enough)
