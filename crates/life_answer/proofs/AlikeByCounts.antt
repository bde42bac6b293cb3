-- Sets that are counted alike by their codes are alike.
use Rattle.std.proofs.Common.{◌≡◌, ℕ, ◌+◌, Bool, true, false, cond, ◌&&◌, List, [], ◌∷◌, ◌++◌, map, count_by, fold, Ordering, Less, Equal, Greater, inl, inr, sym, refl, ap, ◌∙◌, arith}
use Rattle.std.specs.Cmp as cmp
use Rattle.std.specs.List.{All, Contains, list_any}
use Rattle.std.proofs.lemmas.Bool.{and_from, and_parts}
use Rattle.std.proofs.lemmas.List.Elements.{All-append, All-contains, All-cons, All-head, All-nil, All-tail, All-weaker, Contains-append_cases, Contains-append_left, Contains-append_right}
use Rattle.std.proofs.lemmas.List.Sorted.{sum_by-IsPermutation}
use Rattle.life_model.specs.Rule.{Rule}
use Rattle.life_model.specs.Generation.{Generation}
use Rattle.life_objects.specs.Ash.{IsObject, RecursWithin}
use Rattle.life_objects.specs.Kinds.{AreAlike, IsKind}
use Rattle.life_objects.specs.Limits.{objects_bound_limit}
use Rattle.life_objects.proofs.Lists.{Contains-head, Contains-later}
use Rattle.life_parts.specs.Independent.Independent.{independent_parts_of}
use Rattle.life_growth.proofs.MeetingLemmas.Reach.{any_by, any_tells}
use Rattle.life_objects.proofs.Counting.{count_by-cons}
use Rattle.life_cells.specs.TextOrder.{shorter_cmp}
use Rattle.life_cells.proofs.TextOrders.{shorter_exact}
use Rattle.life_answer.specs.Census.{counted_parts, part_code}
use Rattle.life_answer.specs.Counted.{all_come_again, code_bound, counted_as, counted_of}
use Rattle.life_answer.specs.Parts.{counted_codes, with_code, with_code_by_order}
use Rattle.life_answer.specs.Rising.{number_of}
use Rattle.life_answer.specs.declared.part.Part.{Part}
use Rattle.life_answer.proofs.AlikeCounts.{is_text, same_object, text_itself, text_tells, within_more}
use Rattle.life_answer.proofs.CountedSets.{come_again_tells}
use Rattle.life_answer.proofs.CountsOfOne.{wider_codes}
use Rattle.life_answer.proofs.Permuted.{same_counts}

-- ---- how many have a code

more_if : (b : Bool) (n : ℕ) → cond {A = ℕ} b (n + 1) 0 ≡ cond {A = ℕ} b n 0 + cond {A = ℕ} b 1 0
more_if true n = refl
more_if false n = refl

at_last : (a b c : ℕ) → (a + b) + c ≡ (a + c) + b
at_last a b c = omega arith

with_one : (text code : List ℕ) (part : Part) (parts rest : List Part) (o : Ordering) → shorter_cmp code part.code ≡ o →
    number_of text rest ≡ number_of text parts + cond {A = ℕ} (is_text text code) 1 0 →
    number_of text (with_code_by_order o code part parts rest)
    ≡ number_of text (part ∷ parts) + cond {A = ℕ} (is_text text code) 1 0
with_one text code part parts rest Less e h = omega arith
with_one text code part parts rest Equal e h =
    let b = is_text text part.code in
    let others = number_of text parts in
    ap (λ n. n + others) (more_if b part.count)
    ∙ at_last (cond {A = ℕ} b part.count 0) (cond {A = ℕ} b 1 0) others
    ∙ ap (λ t. (cond {A = ℕ} b part.count 0 + others) + cond {A = ℕ} t 1 0)
    (sym (ap (is_text text) (shorter_exact code part.code e)))
with_one text code part parts rest Greater e h = omega arith

with_code_more : (text code : List ℕ) (parts : List Part) →
    number_of text (with_code code parts) ≡ number_of text parts + cond {A = ℕ} (is_text text code) 1 0
with_code_more text code [] = omega arith
with_code_more text code (part ∷ parts) =
    with_one text code part parts (with_code code parts) (shorter_cmp code part.code) refl (with_code_more text code parts)

number_with : (text : List ℕ) (codes : List (List ℕ)) (parts : List Part) →
    number_of text (fold (λ ps c. with_code c ps) parts codes) ≡ number_of text parts + count_by (is_text text) codes
number_with text [] parts = omega arith
number_with text (c ∷ cs) parts =
    let rest = number_with text cs (with_code c parts) in
    let one = with_code_more text c parts in
    let e = count_by-cons (is_text text) c cs in
    omega arith

pub number_counted : (text : List ℕ) (codes : List (List ℕ)) → number_of text (counted_codes codes) ≡ count_by (is_text text) codes
number_counted text codes = let all = number_with text codes [] in omega arith

counts_told : (text : List ℕ) (xs ys : List (List ℕ)) → counted_codes xs ≡ counted_codes ys →
    count_by (is_text text) xs ≡ count_by (is_text text) ys
counts_told text xs ys same = sym (number_counted text xs) ∙ ap (number_of text) same ∙ number_counted text ys

module _ (R : Rule) where
  -- ---- whether some set of a list has this code and is of the kind

  module _ (B : ℕ) (kind : Generation → Bool) (fits : IsKind R kind) (all : List Generation)
      (each : (P : Generation) → Contains all P → RecursWithin R B P) where
    abbrev code : Generation → List ℕ
    code = part_code R B

    abbrev has : List ℕ → Bool
    has text = list_any (λ P. is_text text (code P) && kind P) all

    of_kind : (P Q : Generation) → RecursWithin R B P → RecursWithin R B Q → code P ≡ code Q → kind P ≡ kind Q
    of_kind P Q p q same = fits P Q p.steps q.steps p.by q.by p.recurs q.recurs (same_object R B P Q p q same)

    has_kind : (P : Generation) → Contains all P → has (code P) ≡ kind P
    has_kind P one =
        cmp.both_ways (has (code P)) (kind P)
        (λ h.
        let q = any_tells (λ Q. is_text (code P) (code Q) && kind Q) all h in
        let parts = and_parts (is_text (code P) (code q.0)) (kind q.0) q.2 in
        of_kind P q.0 (each P one) (each q.0 q.1) (text_tells (code P) (code q.0) parts.0) ∙ parts.1)
        (λ h. any_by (λ Q. is_text (code P) (code Q) && kind Q) all P one
        (and_from (is_text (code P) (code P)) (kind P) (text_itself (code P)) h))

    count_kind : (Ps : List Generation) → ((P : Generation) → Contains Ps P → Contains all P) →
        count_by kind Ps ≡ count_by has (map code Ps)
    count_kind [] among = refl
    count_kind (P ∷ Ps) among =
        count_by-cons kind P Ps
        ∙ (λ i. cond (sym (has_kind P (among P (Contains-head P Ps))) i) 1 0
        + count_kind Ps (λ Q one. among Q (Contains-later P Q Ps one)) i)
        ∙ sym (count_by-cons has (code P) (map code Ps))

  alike_by_codes : (b c : ℕ) (Ps Qs : List Generation) → All (RecursWithin R b) Ps → All (RecursWithin R c) Qs →
      counted_codes (map (part_code R b) Ps) ≡ counted_codes (map (part_code R c) Qs) → AreAlike R Ps Qs
  alike_by_codes b c Ps Qs here there same kind fits =
      let B : ℕ = b + c in
      let codes = part_code R B in
      let each : (P : Generation) → Contains (Ps ++ Qs) P → RecursWithin R B P = λ P one.
      elim (Contains-append_cases Ps Qs P one) [
        | inl here_too ↦ within_more R b B P (omega arith) (All-contains (RecursWithin R b) Ps P here here_too)
        | inr there_too ↦ within_more R c B P (omega arith) (All-contains (RecursWithin R c) Qs P there there_too)
      ] in
      let told : counted_codes (map codes Ps) ≡ counted_codes (map codes Qs) =
      ap counted_codes (sym (wider_codes R b B Ps (omega arith) here)) ∙ same
      ∙ ap counted_codes (wider_codes R c B Qs (omega arith) there) in
      let order = same_counts is_text text_itself text_tells (map codes Ps) (map codes Qs)
      (λ text. counts_told text (map codes Ps) (map codes Qs) told) in
      count_kind B kind fits (Ps ++ Qs) each Ps (λ P one. Contains-append_left Ps Qs P one)
      ∙ sym (sum_by-IsPermutation (λ (t : List ℕ). cond (has B kind fits (Ps ++ Qs) each t) 1 0) (map codes Ps) (map codes Qs) order)
      ∙ sym (count_kind B kind fits (Ps ++ Qs) each Qs (λ P one. Contains-append_right Ps Qs P one))

  -- ---- what objects count as recurs

  parts_come : (b : ℕ) (P : Generation) (Qs : List Generation) (t : Bool) → RecursWithin R b P →
      all_come_again R objects_bound_limit Qs ≡ t → All (RecursWithin R (code_bound b)) (cond t Qs (P ∷ []))
  parts_come b P Qs true again e =
      let a : ℕ = objects_bound_limit in
      All-weaker (RecursWithin R a) (RecursWithin R (code_bound b)) (λ Q r. within_more R a (code_bound b) Q (omega arith) r) Qs
      (come_again_tells R a Qs e)
  parts_come b P Qs false again e =
      All-cons (RecursWithin R (code_bound b)) P [] (within_more R b (code_bound b) P (omega arith) again)
      (All-nil (RecursWithin R (code_bound b)))

  object_comes : (near : Bool) (b : ℕ) (P : Generation) → RecursWithin R b P →
      All (RecursWithin R (code_bound b)) (counted_as near R b P)
  object_comes true b P again =
      All-cons (RecursWithin R (code_bound b)) P [] (within_more R b (code_bound b) P (omega arith) again)
      (All-nil (RecursWithin R (code_bound b)))
  object_comes false b P again =
      let Qs = independent_parts_of R b P in
      parts_come b P Qs (all_come_again R objects_bound_limit Qs) again refl

  all_come : (near : Bool) (b : ℕ) (Ps : List Generation) → All (IsObject R b) Ps →
      All (RecursWithin R (code_bound b)) (counted_of near R b Ps)
  all_come near b [] objects = All-nil (RecursWithin R (code_bound b))
  all_come near b (P ∷ Ps) objects =
      All-append (RecursWithin R (code_bound b)) (counted_as near R b P) (counted_of near R b Ps)
      (object_comes near b P (All-head (IsObject R b) P Ps objects).recurs)
      (all_come near b Ps (All-tail (IsObject R b) P Ps objects))

  -- what they count as is alike
  pub alike_by_counts : (near : Bool) (b c : ℕ) (Ps Qs : List Generation) → All (IsObject R b) Ps → All (IsObject R c) Qs →
      counted_parts near R b Ps ≡ counted_parts near R c Qs → AreAlike R (counted_of near R b Ps) (counted_of near R c Qs)
  alike_by_counts near b c Ps Qs objects others same =
      alike_by_codes (code_bound b) (code_bound c) (counted_of near R b Ps) (counted_of near R c Qs)
      (all_come near b Ps objects) (all_come near c Qs others) same

  pub themselves : (b : ℕ) (Ps : List Generation) → counted_of true R b Ps ≡ Ps
  themselves b [] = refl
  themselves b (P ∷ Ps) = ap (λ Qs. P ∷ Qs) (themselves b Ps)
