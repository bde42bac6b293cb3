-- The counts of a closing count the objects that patterns fall apart into.
use Rattle.std.proofs.Common.{◌≡◌, ℕ, ◌+◌, ◌*◌, ◌≤◌, min, Bool, true, false, cond, ◌||◌, List, [], ◌∷◌, ◌++◌, Option, Some, None, get_or, replicate, Ok, Err, Result, refl, sym, ap, ◌∙◌, arith, zero-add, ℤ}
use Rattle.std.proofs.lemmas.Bool.{false≢true}
use Rattle.std.proofs.lemmas.List.Elements.{All-map}
use Rattle.std.proofs.lemmas.List.Folds.{list_any_at, sum_by-replicate}
use Rattle.std.proofs.lemmas.List.Sums.{sum_by-append, sum_by-cons}
use Rattle.std.specs.List.{All, list_any, count_by}
use Rattle.census_bundle.specs.declared.bundle.Entry.{Entry}
use Rattle.life_answer.specs.declared.finding.Answer.{Answer}
use Rattle.life_answer.specs.declared.finding.Answer.TheVariants.{Found, Refused}
use Rattle.life_answer.specs.declared.finding.Outcome.{Outcome}
use Rattle.life_answer.specs.declared.finding.Outcome.TheVariants.{Recurs, Ash}
use Rattle.life_answer.specs.declared.part.Part.{Part}
use Rattle.life_answer.specs.declared.question.Question.TheVariants as question
use Rattle.life_model.specs.Rule.{Rule}
use Rattle.census_format.specs.Lines.{answer_to_entry, answers}
use Rattle.census_format.specs.Objects.{Object, object, objects, outcome_objects, part_objects, same_object, distinct_elements, tally}
use Rattle.census_format.specs.ObjectLaws.{one_object, same_itself}
use Rattle.census_format.specs.PartCounts.{parts_as, outcome_as, fallen_as, all_fallen_as, CountsParts, CodesCountParts}
use Rattle.census_format.proofs.Tallies.{count_first, count_map, count_none, any_distinct, count_distinct}

-- ---- the objects with a rule and a code

count_append : {A : Type 0} (p : A → Bool) (xs ys : List A) → count_by p (xs ++ ys) ≡ count_by p xs + count_by p ys
count_append p xs ys = sum_by-append (λ x. cond (p x) 1 0) xs ys

times : (n : ℕ) (b : Bool) → n * cond b 1 0 ≡ cond b n 0
times n true = omega arith
times n false = omega arith

count_replicate : {A : Type 0} (p : A → Bool) (n : ℕ) (x : A) → count_by p (replicate n x) ≡ cond (p x) n 0
count_replicate p n x = sum_by-replicate (λ y. cond (p y) 1 0) n x ∙ times n (p x)

count_parts : (k : Object) (rule : Rule) (parts : List Part) → count_by (same_object k) (part_objects rule parts) ≡ parts_as k rule parts
count_parts k rule [] = refl
count_parts k rule (part ∷ parts) =
    count_append (same_object k) (replicate part.count (object rule part.code)) (part_objects rule parts)
    ∙ ap (λ n. n + count_by (same_object k) (part_objects rule parts)) (count_replicate (same_object k) part.count (object rule part.code))
    ∙ ap (λ n. cond (same_object k (object rule part.code)) part.count 0 + n) (count_parts k rule parts)

count_outcome : (k : Object) (rule : Rule) (outcome : Outcome) (rest : List Object) →
    count_by (same_object k) (outcome_objects rule outcome ++ rest) ≡ outcome_as k rule outcome + count_by (same_object k) rest
count_outcome k rule (Recurs onset period dx dy code) rest = count_first (same_object k) (object rule code) rest
count_outcome k rule (Ash onset parts) rest =
    count_append (same_object k) (part_objects rule parts) rest ∙ ap (λ n. n + count_by (same_object k) rest) (count_parts k rule parts)
count_outcome k rule _ rest = sym (zero-add (count_by (same_object k) rest))

module _ (bound : ℕ) (most : Option ℕ) (near : Bool) (horizon : ℕ) where
  abbrev answer_in : Entry → Answer
  answer_in e = answer_to_entry (question.Objects bound most near horizon) e

  abbrev all_objects : List Entry → List Object
  all_objects es = objects (answers (question.Objects bound most near horizon) es)

  count_answer : (k : Object) (a : Answer) (rest : List Answer) →
      count_by (same_object k) (objects (a ∷ rest)) ≡ fallen_as k a + count_by (same_object k) (objects rest)
  count_answer k (Found rule finding) rest = count_outcome k rule finding.outcome (objects rest)
  count_answer k (Refused number) rest = sym (zero-add (count_by (same_object k) (objects rest)))

  count_all : (k : Object) (es : List Entry) → count_by (same_object k) (all_objects es) ≡ all_fallen_as bound most near horizon es k
  count_all k [] = refl
  count_all k (e ∷ es) =
      count_answer k (answer_in e) (answers (question.Objects bound most near horizon) es)
      ∙ ap (λ n. fallen_as k (answer_in e) + n) (count_all k es)
      ∙ sym (sum_by-cons (λ (x : Entry). fallen_as k (answer_in x)) e es)

some_where : {A : Type 0} (p : A → Bool) (xs : List A) → list_any p xs ≡ true → 1 ≤ count_by p xs
some_where p [] none = absurd (false≢true none)
some_where p (x ∷ xs) some =
    let first : count_by p (x ∷ xs) ≡ cond (p x) 1 0 + count_by p xs = count_first p x xs in
    elim (p x) as (λ b. p x ≡ b → (b || list_any p xs) ≡ true → 1 ≤ count_by p (x ∷ xs)) [
      | true ↦ λ e _. let one = ap {B = ℕ} (λ b. cond b 1 0) e in omega (arith, first, one)
      | false ↦ λ e rest. let none = ap {B = ℕ} (λ b. cond b 1 0) e in let more = some_where p xs rest in omega (arith, first, none, more)
    ] refl some

any_where : (k : Object) (ks : List Object) → 1 ≤ count_by (same_object k) ks → list_any (same_object k) ks ≡ true
any_where k ks some =
    elim (list_any (same_object k) ks) as (λ b. list_any (same_object k) ks ≡ b → b ≡ true) [
      | true ↦ λ _. refl
      | false ↦ λ none. let zero_of = count_none same_object one_object same_itself k ks none in absurd (omega (arith, zero_of, some))
    ] refl

each_line : (bound : ℕ) (most : Option ℕ) (near : Bool) (horizon : ℕ) (es : List Entry) → All (CountsParts bound most near horizon es) (tally same_object (objects (answers (question.Objects bound most near horizon) es)))
each_line bound most near horizon es =
    let ks = objects (answers (question.Objects bound most near horizon) es) in
    All-map (CountsParts bound most near horizon es) (λ k. (k, count_by (same_object k) ks)) (distinct_elements same_object ks) (λ i d lt.
    let k = get_or (distinct_elements same_object ks) i d in
    let any : list_any (same_object k) ks ≡ true = sym (any_distinct same_object one_object same_itself k ks) ∙ list_any_at (same_object k) (distinct_elements same_object ks) i d lt (same_itself k) in
    record { count = count_all bound most near horizon k es; some = some_where (same_object k) ks any })

each_object : (bound : ℕ) (most : Option ℕ) (near : Bool) (horizon : ℕ) (es : List Entry) (k : Object) → 1 ≤ all_fallen_as bound most near horizon es k
    → count_by (λ line. same_object k line.0) (tally same_object (objects (answers (question.Objects bound most near horizon) es))) ≡ 1
each_object bound most near horizon es k some =
    let ks = objects (answers (question.Objects bound most near horizon) es) in
    let all = count_all bound most near horizon k es in
    count_map (λ x. (x, count_by (same_object x) ks)) (λ line. same_object k line.0) (distinct_elements same_object ks)
    ∙ count_distinct same_object one_object same_itself k ks (any_where k ks (omega (arith, all, some)))

pub codes_count_parts : CodesCountParts
codes_count_parts bound most near horizon es = (each_line bound most near horizon es, each_object bound most near horizon es)
