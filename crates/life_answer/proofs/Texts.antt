-- What is found for a text.
use Rattle.std.proofs.Common.{◌≡◌, ℕ, ◌≤◌, Bool, true, false, List, [], ◌∷◌, ◌++◌, Option, Some, None, Result, Ok, Err, cond, is_some, codes, ap, subst, sym, arith, ◌∙◌, ◌≢◌, IfOk, IsOk, OnErr, OnOk, refl, inl, inr}
use Rattle.std.specs.Option.{option_or}
use Rattle.std.specs.List.{list_all}
use Rattle.texts.specs.Bytes.{is_blank, after_one_of}
use Rattle.life_cells.specs.Rules.{life}
use Rattle.life_model.specs.Rule.{Rule}
use Rattle.life_model.specs.Generation.{Generation}
use Rattle.life_model.specs.Recurrence.{Recurrence}
use Rattle.life_cells.specs.declared.rule.RuleFault.{RuleFault}
use Rattle.life_text.specs.declared.rle.RleFault.{RleFault}
use Rattle.life_text.specs.declared.rle.RleFault.TheVariants.{Memory, NoHeader, ManyStates, BadChar, BadRun, TooFar, TooMany, NoEnd}
use Rattle.life_text.specs.Faults.{fault_number}
use Rattle.life_text.specs.Rle as rle
use Rattle.texts.specs.Faults.{fault_if}
use Rattle.life_text.specs.Rle.{Meaning, Token, reading, refusal, fault_of, with_body, unless_fault, first_fault, token_fault, header_rule, line_rule, rule_behind, named_rule, rule_or_fault}
use Rattle.life_text.specs.Picture.{Picture, picture_of}
use Rattle.life_text.proofs.FaultLemmas.{header_rule-numbered}
use Rattle.life_answer.specs.declared.finding.Finding.{Finding}
use Rattle.life_answer.specs.declared.finding.Outcome.{Outcome}
use Rattle.life_answer.specs.declared.finding.Outcome.TheVariants.{Ash, Grows, Large, Unresolved}
use Rattle.life_answer.specs.declared.finding.Answer.{Answer}
use Rattle.life_answer.specs.declared.finding.Answer.TheVariants.{Found, Refused}
use Rattle.life_answer.specs.declared.part.Part.{Part}
use Rattle.life_answer.specs.declared.tale.Engines.{Engines}
use Rattle.life_answer.specs.Answers.{outcome_of, recurrence_outcome}
use Rattle.life_answer.specs.Limited.{first_past, unless_large}
use Rattle.life_answer.specs.Questions.{answer_to, answer_to_question, finding_to}
use Rattle.life_answer.specs.declared.question.Question.{Question}
use Rattle.life_answer.specs.declared.question.Question.TheVariants.{Settles}
use Rattle.life_answer.proofs.Findings.{outcome-no_ash, settled_or_not}

pub answer-found : (q : Question) (text : List ℕ) (pattern : Picture) → picture_of (reading text) ≡ Ok pattern → answer_to_question q text ≡ Found pattern.rule (finding_to q pattern.rule pattern.cells)
unfolding answer_to_question
answer-found q text pattern e = ap (answer_to q) e

refused_by : (q : Question) (r : Result Meaning RleFault) (fault : RleFault) → fault_of r ≡ Some fault → answer_to q (picture_of r) ≡ Refused (fault_number fault)
refused_by q (Ok meaning) fault e = absurd cc
refused_by q (Err other) fault e = ap (λ f. Refused (fault_number f)) (let same : other ≡ fault = cc in same)

pub answer-refused : (q : Question) (text : List ℕ) (fault : RleFault) → refusal text ≡ Some fault → answer_to_question q text ≡ Refused (fault_number fault)
unfolding answer_to_question
answer-refused q text fault e = refused_by q (reading text) fault e

-- an answer that names a fault is the answer to a text with this fault
pub refused-answer : {E : Type 0} (r : Result Answer E) (q : Question) (text : List ℕ) (fault : RleFault) → IfOk r (λ a. a ≡ Refused (fault_number fault))
    → OnOk r (fault ≢ Memory) → (fault ≢ Memory → refusal text ≡ Some fault) → IfOk r (λ a. a ≡ answer_to_question q text)
refused-answer (Ok a) q text fault e h refuses = e ∙ sym (answer-refused q text fault (refuses h))
refused-answer (Err x) q text fault e h refuses = tt

-- ---- where memory may be refused

lawful_header : (r : Result Rule RleFault) (ts : List Token) → fault_of (with_body r ts) ≡ None → IsOk r
lawful_header (Ok rule) ts e = refl
lawful_header (Err fault) ts e = cc

-- a text without a fault has a lawful header
pub header_lawful : (text : List ℕ) → refusal text ≡ None → IsOk (header_rule text)
header_lawful text e = lawful_header (header_rule text) (rle.body_tokens text) e

pub memory_of : {E : Type 0} (r : Result Answer E) (text : List ℕ) (fault : RleFault) → OnErr r (fault ≡ Memory) → (fault ≡ Memory → IsOk (header_rule text)) → OnErr r (IsOk (header_rule text))
memory_of (Ok a) text fault e h = tt
memory_of (Err x) text fault e h = h e

-- ---- the numbers of faults

abbrev IsNumber : ℕ → Type 0
IsNumber n = (1 ≤ n) × (n ≤ 10)

abbrev IsTold : {T : Type 0} → Result T RleFault → Type 0
IsTold (Ok x) = Unit {0}
IsTold (Err fault) = IsNumber (fault_number fault)

abbrev IsNumbered : Option RleFault → Type 0
IsNumbered None = Unit {0}
IsNumbered (Some fault) = IsNumber (fault_number fault)

numbered_if : (b : Bool) (fault : RleFault) (others : Option RleFault) → IsNumber (fault_number fault) → IsNumbered others → IsNumbered (fault_if b fault others)
numbered_if true fault others h k = h
numbered_if false fault others h k = k

token_fault-numbered : (y x live : ℕ) (t : Token) → IsNumbered (token_fault y x live t)
token_fault-numbered y x live t =
    numbered_if (rle.is_other_state t) (ManyStates t.tag_at) _ (omega arith, omega arith)
    (numbered_if (rle.is_no_tag t) (BadChar t.tag_at) _ (omega arith, omega arith)
    (numbered_if (rle.is_bad_run t) (BadRun t.at) _ (omega arith, omega arith)
    (numbered_if (rle.is_too_far y x t) (TooFar t.at) _ (omega arith, omega arith)
    (numbered_if (rle.is_too_many live t) (TooMany t.at) _ (omega arith, omega arith)
    (numbered_if (rle.is_missing t) NoEnd None (omega arith, omega arith) tt)))))

numbered_or : (a b : Option RleFault) → IsNumbered a → IsNumbered b → IsNumbered (option_or a b)
numbered_or None b h k = k
numbered_or (Some fault) b h k = h

first_fault-numbered : (before ts : List Token) → IsNumbered (first_fault before ts)
first_fault-numbered before [] = tt
first_fault-numbered before (t ∷ ts) =
    numbered_or (token_fault (rle.row before) (rle.column before) (rle.live_cells before) t) (first_fault (before ++ t ∷ []) ts)
    (token_fault-numbered (rle.row before) (rle.column before) (rle.live_cells before) t) (first_fault-numbered (before ++ t ∷ []) ts)

told-numbered : (r : Result Rule RuleFault) → IsTold (rule_or_fault r)
told-numbered (Ok rule) = tt
told-numbered (Err fault) = header_rule-numbered fault

told_if : {T : Type 0} (b : Bool) (r s : Result T RleFault) → IsTold r → IsTold s → IsTold (cond b r s)
told_if true r s h k = h
told_if false r s h k = k

named_rule-numbered : (o : Option (List ℕ)) → IsTold (named_rule o)
named_rule-numbered None = (omega arith, omega arith)
named_rule-numbered (Some text) = told-numbered _

rule_behind-numbered : (o : Option (List ℕ)) → IsTold (rule_behind o)
rule_behind-numbered None = (omega arith, omega arith)
rule_behind-numbered (Some text) = told_if (list_all is_blank text) (Ok life) (named_rule (rle.after_rule_name text)) tt (named_rule-numbered (rle.after_rule_name text))

line_rule-numbered : (line : List ℕ) → IsTold (line_rule line)
line_rule-numbered line = told_if (is_some (after_one_of (codes "xX") line)) (rule_behind (rle.after_sizes line)) (Err NoHeader) (rule_behind-numbered (rle.after_sizes line)) (omega arith, omega arith)

unless_fault-numbered : (o : Option RleFault) (meaning : Meaning) → IsNumbered o → IsTold (unless_fault o meaning)
unless_fault-numbered None meaning h = tt
unless_fault-numbered (Some fault) meaning h = h

with_body-numbered : (r : Result Rule RleFault) (ts : List Token) → IsTold r → IsTold (with_body r ts)
with_body-numbered (Err fault) ts h = h
with_body-numbered (Ok rule) ts h = unless_fault-numbered (first_fault [] ts) _ (first_fault-numbered [] ts)

numbered_by : (q : Question) (r : Result Meaning RleFault) (number : ℕ) → IsTold r → answer_to q (picture_of r) ≡ Refused number → IsNumber number
numbered_by q (Ok meaning) number h e = absurd cc
numbered_by q (Err fault) number h e = subst IsNumber (let same : fault_number fault ≡ number = cc in same) h

pub answer-numbered : (q : Question) (text : List ℕ) (number : ℕ) → answer_to_question q text ≡ Refused number → (1 ≤ number) × (number ≤ 10)
unfolding answer_to_question
answer-numbered q text number e =
    numbered_by q (reading text) number (with_body-numbered (header_rule text) (rle.body_tokens text) (line_rule-numbered (rle.header_line text))) e

-- ---- neither ash nor growth

pub same_finding : (r s : Rule) (f g : Finding) → Found r f ≡ Found s g → f ≡ g
same_finding r s f g e = cc

settled_no_growth : (R : Rule) (G : Generation) (r : Recurrence) (lines : List Engines) → recurrence_outcome R G r ≡ Grows lines → ⊥
settled_no_growth R G r lines e = cc

pub outcome-no_growth : (R : Rule) (G : Generation) (b : ℕ) (lines : List Engines) → outcome_of R G b ≡ Grows lines → ⊥
outcome-no_growth R G b lines e =
    elim (settled_or_not R G b) [
      | inl found ↦ settled_no_growth R G found.recurrence lines (sym found.found ∙ e)
      | inr not ↦ (let apart : Unresolved ≡ Grows lines = sym not.found ∙ e in cc)
    ]

-- what is found neither for a set within b nor where a generation is too large
record IsElse (b : ℕ) (other : Outcome) : Type 0 where
  settled : (R : Rule) (G : Generation) → outcome_of R G b ≡ other → ⊥
  large : (n : ℕ) → Large n ≡ other → ⊥

module _ (b : ℕ) (other : Outcome) (apart : IsElse b other) where
  large_else : (R : Rule) (G : Generation) (o : Option ℕ) → unless_large (outcome_of R G b) o ≡ other → ⊥
  large_else R G None e = apart.settled R G e
  large_else R G (Some n) e = apart.large n e

  else_by : (cells : Option ℕ) (r : Result Picture RleFault) (rule : Rule) (finding : Finding) →
      answer_to (Settles b cells) r ≡ Found rule finding → finding.outcome ≡ other → ⊥
  else_by cells (Ok pattern) rule finding e same =
      large_else pattern.rule pattern.cells (first_past cells pattern.rule pattern.cells b)
      (ap (λ (f : Finding). f.outcome) (same_finding pattern.rule rule _ _ e) ∙ same)
  else_by cells (Err fault) rule finding e same = cc

  answer-else : (text : List ℕ) (cells : Option ℕ) (rule : Rule) (finding : Finding) →
      answer_to_question (Settles b cells) text ≡ Found rule finding → finding.outcome ≡ other → ⊥
  unfolding answer_to_question
  answer-else text cells rule finding e same = else_by cells (picture_of (reading text)) rule finding e same

large_no_ash : (onset : ℕ) (parts : List Part) (n : ℕ) → Large n ≡ Ash onset parts → ⊥
large_no_ash onset parts n e = cc

large_no_growth : (lines : List Engines) (n : ℕ) → Large n ≡ Grows lines → ⊥
large_no_growth lines n e = cc

-- where the question is which generation recurs, no answer is an ash
pub answer-no_ash : (text : List ℕ) (b : ℕ) (cells : Option ℕ) (rule : Rule) (finding : Finding) (onset : ℕ) (parts : List Part)
    → answer_to_question (Settles b cells) text ≡ Found rule finding → finding.outcome ≡ Ash onset parts → ⊥
answer-no_ash text b cells rule finding onset parts e ash =
    answer-else b (Ash onset parts)
    (record { settled = λ R G same. outcome-no_ash R G b onset parts same; large = large_no_ash onset parts }) text cells rule
    finding e ash

-- where the question is which generation recurs, no answer is that the pattern grows
pub answer-no_growth : (text : List ℕ) (b : ℕ) (cells : Option ℕ) (rule : Rule) (finding : Finding) (lines : List Engines)
    → answer_to_question (Settles b cells) text ≡ Found rule finding → finding.outcome ≡ Grows lines → ⊥
answer-no_growth text b cells rule finding lines e grows =
    answer-else b (Grows lines)
    (record { settled = λ R G same. outcome-no_growth R G b lines same; large = large_no_growth lines }) text cells rule
    finding e grows
