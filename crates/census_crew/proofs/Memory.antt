-- When working an entry takes memory.
use Rattle.std.proofs.Common.{◌≡◌, ℕ, Bool, true, false, List, Option, Some, None, Result, Ok, Err, IsOk, IfSome, OnErr, cond, refl, subst}
use Rattle.census_bundle.specs.declared.bundle.Entry.{Entry}
use Rattle.life_answer.specs.declared.finding.Answer.TheVariants.{Refused}
use Rattle.life_answer.specs.declared.question.Question.{Question}
use Rattle.life_answer.specs.Questions.{answer_to_question}
use Rattle.life_answer.proofs.Texts.{answer-refused, header_lawful}
use Rattle.life_text.specs.declared.rle.RleFault.{RleFault}
use Rattle.life_text.specs.Faults.{fault_number}
use Rattle.life_text.specs.Rle.{header_rule, refusal}
use Rattle.census_format.specs.Lines.{answer_to_entry}
use Rattle.census_crew.specs.Answering.{TakesMemory}

-- the text of a pattern that is found has a header
found_header : (question : Question) (text : List ℕ) (fault : Option RleFault) → refusal text ≡ fault
    → ((number : ℕ) → answer_to_question question text ≡ Refused number → ⊥) → IsOk (header_rule text)
found_header question text None is apart = header_lawful text is
found_header question text (Some fault) is apart = absurd (apart (fault_number fault) (answer-refused question text fault is))

found_text : (question : Question) (is_lost : Bool) (text : List ℕ)
    → ((number : ℕ) → cond is_lost (Refused 0) (answer_to_question question text) ≡ Refused number → ⊥) → (is_lost ≡ false) × IsOk (header_rule text)
found_text question true text apart = absurd (apart 0 refl)
found_text question false text apart = (refl, found_header question text (refusal text) refl apart)

-- memory is taken only for an entry that is not refused
pub found_entry : (question : Question) (e : Entry) → ((number : ℕ) → answer_to_entry question e ≡ Refused number → ⊥) → TakesMemory e
unfolding answer_to_entry
found_entry question e apart = found_text question e.is_lost e.text apart

-- what follows from what holds after an error holds after it
pub err_then : {A E P Q : Type 0} (r : Result A E) → (P → Q) → OnErr r P → OnErr r Q
err_then (Ok value) f h = tt
err_then (Err error) f h = f h

-- what holds anyway holds after an error
pub on_err : {A E P : Type 0} (r : Result A E) → P → OnErr r P
on_err (Ok value) h = tt
on_err (Err error) h = h

-- what holds of the value in a `Some`
pub some_is : {X : Type 0} (P : X → Type 0) (o : Option X) (x : X) → o ≡ Some x → IfSome o P → P x
some_is P o x is told = subst (λ y. IfSome y P) is told
