-- The rules of answers are printed as rules.
use Rattle.std.proofs.Common.{◌≡◌, ℕ, zero, suc, ◌+◌, ◌-◌, ◌^◌, ◌%◌, ◌<◌, ◌≤◌, Bool, true, false, ◌&&◌, ◌==◌, cond, leb, Option, Some, None, Result, Ok, Err, List, [], ◌∷◌, ◌++◌, map, filter, fold, bit_or, length, replicate, inl, inr, ap, ◌∙◌, sym, refl, arith, append-nil, append_assoc}
use Rattle.std.specs.Prelude.{⊤, codes, is_some}
use Rattle.std.specs.Int.{bit_at}
use Rattle.std.specs.List.{AllByRecursion as Each, list_all, range_with_len}
use Rattle.std.specs.Option.{option_and_then, option_map_or}
use Rattle.std.proofs.Math.Pow.{pow-lt}
use Rattle.std.proofs.lemmas.Bool.{le-leb, and_parts}
use Rattle.std.proofs.lemmas.Bool.Decides.{nat_tests}
use Rattle.std.proofs.lemmas.Nat.{or_lt}
use Rattle.std.proofs.lemmas.Nat.Bits.{bit_at_lowest}
use Rattle.census_bundle.specs.declared.bundle.Entry.{Entry}
use Rattle.census_format.specs.Lines.{answer_to_entry}
use Rattle.census_format.specs.Objects.{Object, object, objects, outcome_objects, part_objects}
use Rattle.census_readback.specs.Rules.{after_rising, is_rule}
use Rattle.life_answer.specs.Questions.{answer_to, answer_to_question}
use Rattle.life_answer.specs.declared.finding.Answer.{Answer}
use Rattle.life_answer.specs.declared.finding.Answer.TheVariants.{Found, Refused}
use Rattle.life_answer.specs.declared.finding.Outcome.{Outcome}
use Rattle.life_answer.specs.declared.finding.Outcome.TheVariants.{Recurs, Ash}
use Rattle.life_answer.specs.declared.part.Part.{Part}
use Rattle.life_answer.specs.declared.question.Question.{Question}
use Rattle.life_cells.specs.Forms.{HasForm, IsDigits}
use Rattle.life_cells.specs.Rules.{digits_by_form, is_count, life, members, rule_of, rule_of_digits, rule_text, set_text}
use Rattle.life_cells.specs.declared.rule.RuleFault.{RuleFault}
use Rattle.life_cells.specs.declared.rule.RuleFault.TheVariants.{HasB0}
use Rattle.life_cells.proofs.FormLemmas.{form_found}
use Rattle.life_cells.proofs.PrintLemmas.{members_are, printed_rule}
use Rattle.life_cells.proofs.RuleLemmas.{count_range}
use Rattle.life_model.specs.Rule.{Rule}
use Rattle.life_text.specs.Picture.{Picture, picture_of}
use Rattle.life_text.specs.Rle.{Token, after_rule_name, after_sizes, body_tokens, cells_after, first_fault, header_line, header_rule, line_rule, named_rule, reading, rule_behind, rule_or_fault, unless_fault, with_body}
use Rattle.life_text.specs.declared.rle.RleFault.{RleFault}
use Rattle.life_text.specs.declared.rle.RleFault.TheVariants.{NoHeader}
use Rattle.census_merge.proofs.Solid.{each-append, each-replicate}
use Rattle.texts.specs.Bytes.{after_one_of, is_blank, is_in, without_ends}
use Rattle.census_merge.specs.Lawful.{IsLifeLike, IsLifeLikeAnswer}

-- ---- printed rules

-- no digit of a rule is at the front
abbrev Stops : List ℕ → Type 0
Stops rest = (least : ℕ) → 48 ≤ least → after_rising least rest ≡ rest

-- the numbers of a set, from one on
abbrev from_on : ℕ → ℕ → ℕ → List ℕ
from_on set a n = filter (λ k. bit_at set k == 1) (range_with_len a n)

after-set : (set a n least : ℕ) (rest : List ℕ) → 48 ≤ least → least ≤ 48 + a → a + n ≤ 9 → Stops rest
    → after_rising least (map (λ k. 48 + k) (from_on set a n) ++ rest) ≡ rest
after-set set a zero least rest low under within stops = stops least low
after-set set a (suc n) least rest low under within stops =
    let others = from_on set (a + 1) n in
    elim (bit_at set a == 1) as (λ b. after_rising least (map (λ k. 48 + k) (cond b (a ∷ others) others) ++ rest) ≡ rest) [
      | true ↦
          ap (λ b. cond (b && leb (48 + a) 56) (after_rising (48 + a + 1) (map (λ k. 48 + k) others ++ rest)) ((48 + a) ∷ map (λ k. 48 + k) others ++ rest)) (le-leb least (48 + a) under)
          ∙ ap (λ b. cond b (after_rising (48 + a + 1) (map (λ k. 48 + k) others ++ rest)) ((48 + a) ∷ map (λ k. 48 + k) others ++ rest)) (le-leb (48 + a) 56 (omega (arith, within)))
          ∙ after-set set (a + 1) n (48 + a + 1) rest (omega arith) (omega arith) (omega (arith, within)) stops
      | false ↦ after-set set (a + 1) n least rest low (omega (arith, under)) (omega (arith, within)) stops
    ]

slash-stops : (rest : List ℕ) → Stops (47 ∷ rest)
slash-stops rest least low = ap (λ b. cond (b && leb 47 56) (after_rising (47 + 1) rest) (47 ∷ rest)) (not-below least low)
  where
    not-below : (least : ℕ) → 48 ≤ least → leb least 47 ≡ false
    not-below least low = grind (arith)

births : (rule : Rule) (rest : List ℕ) → IsLifeLike rule → after_rising 49 (set_text rule.birth ++ 47 ∷ rest) ≡ 47 ∷ rest
births rule rest ruled =
    ap (λ b. after_rising 49 (map (λ k. 48 + k) (cond b (0 ∷ from_on rule.birth 1 8) (from_on rule.birth 1 8)) ++ 47 ∷ rest)) ruled.0
    ∙ after-set rule.birth 1 8 49 (47 ∷ rest) (omega arith) (omega arith) (omega arith) (slash-stops rest)

survivals : (set : ℕ) → after_rising 48 (set_text set) ≡ []
survivals set =
    ap (after_rising 48) (sym (append-nil (set_text set))) ∙ after-set set 0 9 48 [] (omega arith) (omega arith) (omega arith) (λ least low. refl)

pub rule-printed : (rule : Rule) → IsLifeLike rule → is_rule (rule_text rule) ≡ true
rule-printed rule ruled =
    let behind : List ℕ → Bool = λ w.
    option_map_or (λ rest. length (after_rising 48 rest) == 0) (option_and_then (λ rest. after_one_of (codes "S") rest) (after_one_of (codes "/") w)) false in
    ap (λ w. behind (after_rising 49 w)) (append_assoc (set_text rule.birth) (codes "/S") (set_text rule.survival))
    ∙ ap behind (births rule (83 ∷ set_text rule.survival) ruled)
    ∙ ap (λ w. length w == 0) (survivals rule.survival)

-- ---- rules that are read

abbrev IsFair : {E : Type 0} → Result Rule E → Type 0
IsFair (Ok rule) = IsLifeLike rule
IsFair (Err fault) = ⊤

birth-digits : (text birth survival : List ℕ) → HasForm text birth survival → IsDigits birth
birth-digits text birth survival (inl form) = form.digits
birth-digits text birth survival (inr (inl form)) = form.others
birth-digits text birth survival (inr (inr form)) = form.others

survival-digits : (text birth survival : List ℕ) → HasForm text birth survival → IsDigits survival
survival-digits text birth survival (inl form) = form.others
survival-digits text birth survival (inr (inl form)) = form.digits
survival-digits text birth survival (inr (inr form)) = form.digits

-- the numbers of digits are at most 8
pub members-below : (digits : List ℕ) (set : ℕ) → IsDigits digits → set < 512 → fold (λ set c. bit_or set (2 ^ (c - 48))) set digits < 512
members-below [] set h small = small
members-below (c ∷ digits) set h small =
    let high = (count_range c (and_parts (is_count c) (list_all is_count digits) h).0).1 in
    let few : c - 48 < 9 = omega (arith, high) in
    let below : 2 ^ (c - 48) < 2 ^ 9 = pow-lt few in
    members-below digits (bit_or set (2 ^ (c - 48))) (and_parts (is_count c) (list_all is_count digits) h).1 (or_lt 9 set (2 ^ (c - 48)) small below)

digits-fair : (birth survival : List ℕ) → IsDigits birth → IsDigits survival → IsFair (rule_of_digits (Some (birth, survival)))
digits-fair birth survival digits others =
    (elim (is_in birth 48) as (λ b. is_in birth 48 ≡ b → IsFair (rule_unless b)) [
      | true ↦ λ e. tt
      | false ↦ λ e. (members_are birth 0 digits ∙ e, members-below birth 0 digits (omega arith), members-below survival 0 others (omega arith))
    ]) refl
  where
    rule_unless : Bool → Result Rule RuleFault
    rule_unless b = cond b (Err HasB0) (Ok (record { birth = members birth; survival = members survival }))

by-form : (text : List ℕ) (found : Option (List ℕ × List ℕ)) → digits_by_form text ≡ found → IsFair (rule_of_digits found)
by-form text None e = tt
by-form text (Some (birth, survival)) e = (
    let form = form_found text birth survival e in
    digits-fair birth survival (birth-digits text birth survival form) (survival-digits text birth survival form)
    )

read-fair : (text : List ℕ) → IsFair (rule_of text)
read-fair text = by-form text (digits_by_form text) refl

or-fault : (found : Result Rule RuleFault) → IsFair found → IsFair (rule_or_fault found)
or-fault (Ok rule) h = h
or-fault (Err fault) h = tt

named-fair : (text : Option (List ℕ)) → IsFair (named_rule text)
named-fair None = tt
named-fair (Some text) = or-fault (rule_of (without_ends is_blank text)) (read-fair (without_ends is_blank text))

behind-fair : (text : Option (List ℕ)) → IsFair (rule_behind text)
behind-fair None = tt
behind-fair (Some text) = elim (list_all is_blank text) as (λ b. IsFair (cond b (Ok life) (named_rule (after_rule_name text)))) [ true ↦ (refl, omega arith, omega arith) | false ↦ named-fair (after_rule_name text) ]

header-fair : (line : List ℕ) → IsFair (line_rule line)
header-fair line =
    elim (is_some (after_one_of (codes "xX") line)) as (λ b. IsFair (cond b (rule_behind (after_sizes line)) (Err NoHeader))) [
      | true ↦ behind-fair (after_sizes line)
      | false ↦ tt
    ]

-- ---- the rules of answers

abbrev IsFairPicture : Result Picture RleFault → Type 0
IsFairPicture (Ok pattern) = IsLifeLike pattern.rule
IsFairPicture (Err fault) = ⊤

unless-fair : (rule : Rule) (ts : List Token) (fault : Option RleFault) → IsLifeLike rule → IsFairPicture (picture_of (unless_fault fault (record { rule = rule; cells = cells_after [] ts })))
unless-fair rule ts None h = h
unless-fair rule ts (Some fault) h = tt

body-fair : (rule : Result Rule RleFault) (ts : List Token) → IsFair rule → IsFairPicture (picture_of (with_body rule ts))
body-fair (Ok rule) ts h = unless-fair rule ts (first_fault [] ts) h
body-fair (Err fault) ts h = tt

answer-ruled : (question : Question) (read : Result Picture RleFault) → IsFairPicture read → IsLifeLikeAnswer (answer_to question read)
answer-ruled question (Ok pattern) h = h
answer-ruled question (Err fault) h = tt

question-ruled : (question : Question) (text : List ℕ) → IsLifeLikeAnswer (answer_to_question question text)
unfolding answer_to_question
question-ruled question text = answer-ruled question (picture_of (reading text)) (body-fair (header_rule text) (body_tokens text) (header-fair (header_line text)))

pub entry-ruled : (question : Question) (e : Entry) → IsLifeLikeAnswer (answer_to_entry question e)
unfolding answer_to_entry
entry-ruled question e =
    elim e.is_lost as (λ v. IsLifeLikeAnswer (cond v (Refused 0) (answer_to_question question e.text))) [
      | true ↦ tt
      | false ↦ question-ruled question e.text
    ]

-- ---- the rules of objects

abbrev pub IsLifeLikeObject : Object → Type 0
IsLifeLikeObject o = IsLifeLike o.rule

parts-ruled : (rule : Rule) (parts : List Part) → IsLifeLike rule → Each IsLifeLikeObject (part_objects rule parts)
parts-ruled rule [] h = tt
parts-ruled rule (part ∷ parts) h =
    each-append IsLifeLikeObject (replicate part.count (object rule part.code)) (part_objects rule parts)
    (each-replicate IsLifeLikeObject part.count (object rule part.code) h) (parts-ruled rule parts h)

pub outcome-ruled : (rule : Rule) (outcome : Outcome) → IsLifeLike rule → Each IsLifeLikeObject (outcome_objects rule outcome)
outcome-ruled rule (Recurs onset period dx dy code) h = (h, tt)
outcome-ruled rule (Ash onset parts) h = parts-ruled rule parts h
outcome-ruled rule _ h = tt

pub objects-ruled : (found : List Answer) → Each IsLifeLikeAnswer found → Each IsLifeLikeObject (objects found)
objects-ruled [] h = tt
objects-ruled (Found rule finding ∷ found) h =
    each-append IsLifeLikeObject (outcome_objects rule finding.outcome) (objects found) (outcome-ruled rule finding.outcome h.0) (objects-ruled found h.1)
objects-ruled (Refused number ∷ found) h = objects-ruled found h.1

-- ---- printed rules that are one

no-zero : (n : ℕ) → (bit_at n 0 == 1) ≡ false → n % 2 ≡ 0
no-zero n h = (let e = bit_at_lowest n in grind (arith, nat_tests, e))

abbrev read : Rule → Result Rule RuleFault
read rule = Ok rule

same-read : (r s : Rule) → read r ≡ read s → r ≡ s
same-read r s h = cc

-- rules that are printed alike are one
pub one-rule : (r s : Rule) → IsLifeLike r → IsLifeLike s → rule_text r ≡ rule_text s → r ≡ s
one-rule r s a b h =
    same-read r s (sym (printed_rule r a.1 a.2 (no-zero r.birth a.0)) ∙ ap rule_of h ∙ printed_rule s b.1 b.2 (no-zero s.birth b.0))
