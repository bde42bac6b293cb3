-- What is found of entries, lost or not.
use Rattle.std.proofs.Common.{◌≡◌, ℕ, true, false, refl, sym, ap, ◌∙◌, if◌then◌else◌}
use Rattle.census_bundle.specs.declared.bundle.Entry.{Entry}
use Rattle.life_answer.specs.Questions.{answer_to_question}
use Rattle.life_answer.specs.declared.finding.Answer.TheVariants.{Found, Refused}
use Rattle.life_answer.specs.declared.finding.Finding.{Finding}
use Rattle.life_answer.specs.declared.question.Question.{Question}
use Rattle.life_model.specs.Rule.{Rule}
use Rattle.census_format.specs.Lines.{answer_to_entry}

-- the same is found of entries with one text that are both lost or both not lost
pub same_answer : (question : Question) (e f : Entry) → e.text ≡ f.text → e.is_lost ≡ f.is_lost → answer_to_entry question e ≡ answer_to_entry question f
unfolding answer_to_entry
same_answer question e f texts losses = λ i. if losses i then Refused 0 else answer_to_question question (texts i)

pub kept_answer : (question : Question) (e : Entry) → e.is_lost ≡ false → answer_to_entry question e ≡ answer_to_question question e.text
unfolding answer_to_entry
kept_answer question e kept = ap (λ lost. if lost then Refused 0 else answer_to_question question e.text) kept

not_found : (number : ℕ) (rule : Rule) (finding : Finding) → Refused number ≡ Found rule finding → ⊥
not_found number rule finding e = cc

-- an entry of which something is found isn't lost
pub found_kept : (question : Question) (e : Entry) (rule : Rule) (finding : Finding) → answer_to_entry question e ≡ Found rule finding → e.is_lost ≡ false
unfolding answer_to_entry
found_kept question e rule finding is =
    elim e.is_lost as (λ lost. (if lost then Refused 0 else answer_to_question question e.text) ≡ Found rule finding → lost ≡ false) [
      | true ↦ λ refused. absurd (not_found 0 rule finding refused)
      | false ↦ λ _. refl
    ] is

pub found_answer : (question : Question) (e : Entry) (rule : Rule) (finding : Finding) → answer_to_entry question e ≡ Found rule finding → answer_to_question question e.text ≡ Found rule finding
found_answer question e rule finding is = sym (kept_answer question e (found_kept question e rule finding is)) ∙ is
