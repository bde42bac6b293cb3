-- What is found of a text that means a pattern.
use Rattle.std.proofs.Common.{◌≡◌, ℕ, List, Ok, sym, ◌∙◌}
use Rattle.life_model.specs.Rule.{Rule}
use Rattle.life_text.specs.Picture.{Picture, picture_of}
use Rattle.life_text.specs.Rle.{reading}
use Rattle.life_answer.proofs.Texts.{answer-found}
use Rattle.life_answer.specs.Questions.{answer_to_question, finding_to}
use Rattle.life_answer.specs.declared.finding.Answer.{Answer}
use Rattle.life_answer.specs.declared.finding.Answer.TheVariants.{Found, Refused}
use Rattle.life_answer.specs.declared.finding.Finding.{Finding}
use Rattle.life_answer.specs.declared.question.Question.{Question}

-- the finding is the pattern's
pub found : (question : Question) (text : List ℕ) (pattern : Picture) (answer : Answer) (rule : Rule) (finding : Finding)
    → answer ≡ answer_to_question question text → picture_of (reading text) ≡ Ok pattern → answer ≡ Found rule finding
    → finding ≡ finding_to question pattern.rule pattern.cells
found question text pattern answer rule finding is means finds =
    let e : Found rule finding ≡ Found pattern.rule (finding_to question pattern.rule pattern.cells) = sym finds ∙ is ∙ answer-found question text pattern means in
    cc

-- and it isn't refused
pub not_refused : (question : Question) (text : List ℕ) (pattern : Picture) (answer : Answer) (number : ℕ)
    → answer ≡ answer_to_question question text → picture_of (reading text) ≡ Ok pattern → answer ≡ Refused number → ⊥
not_refused question text pattern answer number is means refuses =
    let e : Refused number ≡ Found pattern.rule (finding_to question pattern.rule pattern.cells) = sym refuses ∙ is ∙ answer-found question text pattern means in
    cc
