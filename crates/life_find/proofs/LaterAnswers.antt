-- What is found of a text within a bound is found within every greater one.
use Rattle.std.proofs.Common.{◌≡◌, ℕ, ◌≤◌, false, List, Option, None, Some, Result, Ok, Err, refl, sym, ap, ◌∙◌}
use Rattle.life_model.specs.Rule.{Rule}
use Rattle.life_model.specs.Generation.{Generation}
use Rattle.life_text.specs.declared.rle.RleFault.{RleFault}
use Rattle.life_text.specs.Rle.{reading}
use Rattle.life_text.specs.Picture.{Picture, picture_of}
use Rattle.life_answer.specs.declared.finding.Answer.TheVariants.{Found}
use Rattle.life_answer.specs.declared.finding.Outcome.TheVariants.{Unresolved}
use Rattle.life_answer.specs.declared.question.Question.TheVariants.{Settles}
use Rattle.life_answer.specs.Answers.{finding_with, outcome_of}
use Rattle.life_answer.specs.Limited.{first_past, outcome_unless_large, unless_large}
use Rattle.life_answer.specs.Questions.{answer_to, answer_to_question}
use Rattle.life_find.specs.Soon.{is_open, leaves_open}
use Rattle.life_find.proofs.Beyond.{found_beyond, past_beyond, stays}

module _ (R : Rule) (G : Generation) (limit : Option ℕ) (b c : ℕ) (h : b ≤ c)
    (resolved : outcome_unless_large limit R G b (outcome_of R G b) ≡ Unresolved → ⊥) where
  limited_by : (o : Option ℕ) → first_past limit R G b ≡ o
      → outcome_unless_large limit R G c (outcome_of R G c) ≡ outcome_unless_large limit R G b (outcome_of R G b)
  limited_by (Some n) e =
      ap (unless_large (outcome_of R G c)) (past_beyond R G limit b c n h e)
      ∙ sym (ap (unless_large (outcome_of R G b)) e)
  limited_by None e =
      let same : outcome_unless_large limit R G b (outcome_of R G b) ≡ outcome_of R G b = ap (unless_large (outcome_of R G b)) e in
      found_beyond R G limit b c (stays R G limit b (λ other. ap (unless_large other) e)) (λ none. resolved (same ∙ none)) h
      ∙ sym same

  limited_beyond : outcome_unless_large limit R G c (outcome_of R G c) ≡ outcome_unless_large limit R G b (outcome_of R G b)
  limited_beyond = limited_by (first_past limit R G b) refl

answered_by : (limit : Option ℕ) (b c : ℕ) → b ≤ c → (r : Result Picture RleFault)
    → is_open (answer_to (Settles b limit) r) ≡ false → answer_to (Settles c limit) r ≡ answer_to (Settles b limit) r
answered_by limit b c h (Ok pattern) e =
    ap (λ outcome. Found pattern.rule (finding_with pattern.cells outcome))
    (limited_beyond pattern.rule pattern.cells limit b c h
    (λ none. let opened = sym (ap leaves_open none) ∙ e in cc))
answered_by limit b c h (Err fault) e = refl

-- what is found of a text within some bound is found within any greater one, unless it is open
pub answered_later : (limit : Option ℕ) (b c : ℕ) (text : List ℕ) → b ≤ c
    → is_open (answer_to_question (Settles b limit) text) ≡ false
    → answer_to_question (Settles c limit) text ≡ answer_to_question (Settles b limit) text
unfolding answer_to_question
answered_later limit b c text h e = answered_by limit b c h (picture_of (reading text)) e
