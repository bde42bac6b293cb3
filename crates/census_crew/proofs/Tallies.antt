-- How what was counted follows the tickets taken.
use Rattle.std.proofs.Common.{◌≡◌, ℕ, suc, ◌+◌, ◌*◌, ◌^◌, ◌<◌, ◌≤◌, Bool, true, false, cond, List, [], ◌∷◌, Some, length, refl, sym, ap, subst, ◌∙◌, arith, slice_get}
use Rattle.census_bundle.specs.declared.bundle.Entry.{Entry}
use Rattle.census_bundle.specs.declared.bundle.Folder.{Folder}
use Rattle.census_bundle.specs.declared.ticket.Ticket.{Ticket}
use Rattle.census_bundle.specs.Sizes.{IsWithinCounts, count_limit}
use Rattle.std.specs.FinSet.{contains-empty}
use Rattle.census_bundle.specs.Tickets.{Tickets, ticket_cmp, ticket, no_tickets, element_at, entry_in, has_ticket, with_ticket, HasAllTickets}
use Rattle.life_answer.specs.declared.finding.Answer.{Answer}
use Rattle.census_book.specs.Collecting.{IsResultOf}
use Rattle.census_book.specs.Work.{Work}
use Rattle.census_book.specs.Counts.{numbered_sum, one_if, count_of, taken_count}
use Rattle.census_format.specs.Lines.{answer_to_entry, is_refused, is_resolved, is_unresolved, pattern_count}
use Rattle.census_book.proofs.Counting.{count_more}
use Rattle.census_format.proofs.Lost.{same_answer}
use Rattle.census_crew.specs.declared.tally.Tally.{Tally}
use Rattle.census_crew.specs.Tallying.{tally_with, no_tally, TalliesTaken, TalliesPatterns}
use Rattle.life_answer.specs.declared.question.Question.{Question}

-- sums of the same weights, at each place that there is
sum_same : {A : Type 0} (g h : ℕ → A → ℕ) (i : ℕ) (xs : List A) → ((j k : ℕ) (x : A) → j ≡ i + k → slice_get xs k ≡ Some x → h j x ≡ g j x) → numbered_sum h i xs ≡ numbered_sum g i xs
sum_same g h i [] same = refl
sum_same g h i (x ∷ xs) same =
    let here : h i x ≡ g i x = same i 0 x (omega arith) refl in
    let rest = sum_same g h (suc i) xs (λ j k y e is. same j (suc k) y (omega arith) is) in
    omega arith

at_number : {A : Type 0} (xs : List A) (j k : ℕ) (x : A) → j ≡ 1 + k → slice_get xs k ≡ Some x → element_at xs j ≡ Some x
at_number xs j k x e is = subst (λ n. element_at xs n ≡ Some x) (let s : suc k ≡ j = omega arith in s) is

-- a sum of weights that are each at most m
sum_small : {A : Type 0} (g : ℕ → A → ℕ) (m i : ℕ) (xs : List A) → ((j k : ℕ) (x : A) → slice_get xs k ≡ Some x → g j x ≤ m) → numbered_sum g i xs ≤ length xs * m
sum_small g m i [] each = omega arith
sum_small g m i (x ∷ xs) each =
    let here = each i 0 x refl in
    let rest = sum_small g m (suc i) xs (λ j k y is. each j (suc k) y is) in
    grind arith

one_small : (b : Bool) → one_if b ≤ 1
one_small true = omega arith
one_small false = omega arith

taken_small : (has b : Bool) → cond has (one_if b) 0 ≤ 1
taken_small true b = one_small b
taken_small false b = omega arith

times_small : (n : ℕ) → n ≤ count_limit → n * 1 ≤ count_limit
times_small n le = omega (arith, le)

square_small : (n s : ℕ) → n ≤ count_limit → s ≤ n * count_limit → s < 2 ^ 62
square_small n s le more = omega (arith, le, more)

pub count_small : (kind : Answer → Bool) (b : List Folder) (question : Question) (taken : Tickets) → IsWithinCounts b → taken_count kind b question taken < 2 ^ 62
count_small kind b question taken small =
    square_small (length b) _ small.folders
    (sum_small (λ c (f : Folder). numbered_sum (λ i (e : Entry). cond (has_ticket taken (ticket c i)) (one_if (kind (answer_to_entry question e))) 0) 1 f.entries) count_limit 1 b
    (λ c k f is.
    let inner = sum_small (λ i (e : Entry). cond (has_ticket taken (ticket c i)) (one_if (kind (answer_to_entry question e))) 0) 1 1 f.entries
    (λ i j e at. taken_small (has_ticket taken (ticket c i)) (kind (answer_to_entry question e))) in
    let few = small.entries k f is in
    omega (arith, inner, few)))

none_sum : {A : Type 0} (g : ℕ → A → ℕ) (i : ℕ) (xs : List A) → ((j : ℕ) (x : A) → g j x ≡ 0) → numbered_sum g i xs ≡ 0
none_sum g i [] none = refl
none_sum g i (x ∷ xs) none = let here = none i x in let rest = none_sum g (suc i) xs none in omega arith

none_has : (t : Ticket) → has_ticket no_tickets t ≡ false
none_has t = contains-empty ticket_cmp t

count_none : (kind : Answer → Bool) (b : List Folder) (question : Question) → taken_count kind b question no_tickets ≡ 0
count_none kind b question =
    none_sum (λ c (f : Folder). numbered_sum (λ i (e : Entry). cond (has_ticket no_tickets (ticket c i)) (one_if (kind (answer_to_entry question e))) 0) 1 f.entries) 1 b
    (λ c f. none_sum (λ i (e : Entry). cond (has_ticket no_tickets (ticket c i)) (one_if (kind (answer_to_entry question e))) 0) 1 f.entries (λ i e. ap (λ (has : Bool). cond has (one_if (kind (answer_to_entry question e))) 0) (none_has (ticket c i))))

pub none_taken : (b : List Folder) (question : Question) → TalliesTaken no_tally b question no_tickets
none_taken b question = record {
  patterns = sym (count_none (λ a. true) b question);
  resolved = sym (count_none is_resolved b question);
  unresolved = sym (count_none is_unresolved b question);
  refused = sym (count_none is_refused b question);
}

pub one_taken : (b : List Folder) (question : Question) (taken : Tickets) (w : Work) (tally : Tally) → IsResultOf b question w → has_ticket taken w.ticket ≡ false → TalliesTaken tally b question taken
    → TalliesTaken (tally_with tally (answer_to_entry w.question w.entry)) b question (with_ticket taken w.ticket)
one_taken b question taken w tally belongs not counted =
    let t = w.ticket in
    let worked = w.entry in
    let asked = w.question in
    let same : answer_to_entry question belongs.entry ≡ answer_to_entry asked worked = same_answer question belongs.entry worked belongs.same_text belongs.same_loss ∙ ap (λ q. answer_to_entry q worked) belongs.same_question in
    let more : (kind : Answer → Bool) (m : ℕ) → m ≡ taken_count kind b question taken → m + one_if (kind (answer_to_entry asked worked)) ≡ taken_count kind b question (with_ticket taken t)
    = λ kind m is. ap (λ k. k + one_if (kind (answer_to_entry asked worked))) is ∙ sym (count_more kind b question taken t belongs.entry belongs.at not ∙ ap (λ a. taken_count kind b question taken + one_if (kind a)) same) in
    record {
      patterns = more (λ a. true) tally.patterns counted.patterns;
      resolved = more is_resolved tally.resolved counted.resolved;
      unresolved = more is_unresolved tally.unresolved counted.unresolved;
      refused = more is_refused tally.refused counted.refused;
    }

-- if each ticket is taken, all patterns of a kind were counted
count_all : (kind : Answer → Bool) (b : List Folder) (question : Question) (taken : Tickets) → HasAllTickets b taken → taken_count kind b question taken ≡ count_of kind b question
count_all kind b question taken all =
    sum_same (λ c (f : Folder). numbered_sum (λ i (e : Entry). one_if (kind (answer_to_entry question e))) 1 f.entries) (λ c (f : Folder). numbered_sum (λ i (e : Entry). cond (has_ticket taken (ticket c i)) (one_if (kind (answer_to_entry question e))) 0) 1 f.entries) 1 b
    (λ c k f is_c is. sum_same (λ i (e : Entry). one_if (kind (answer_to_entry question e))) (λ i (e : Entry). cond (has_ticket taken (ticket c i)) (one_if (kind (answer_to_entry question e))) 0) 1 f.entries
    (λ i j e is_i at. ap (λ (has : Bool). cond has (one_if (kind (answer_to_entry question e))) 0) (all (ticket c i) (e, ap (λ o. entry_in o i) (at_number b c k f is_c is) ∙ at_number f.entries i j e is_i at))))

ones : {A : Type 0} (i : ℕ) (xs : List A) → numbered_sum (λ j (x : A). 1) i xs ≡ length xs
ones i [] = refl
ones i (x ∷ xs) = let rest = ones (suc i) xs in omega arith

count_each : (question : Question) (i : ℕ) (b : List Folder) → numbered_sum (λ c (f : Folder). numbered_sum (λ j (e : Entry). 1) 1 f.entries) i b ≡ pattern_count b
count_each question i [] = refl
count_each question i (f ∷ fs) = let here = ones 1 f.entries in let rest = count_each question (suc i) fs in omega arith

pub all_counted : (b : List Folder) (question : Question) (taken : Tickets) (tally : Tally) → HasAllTickets b taken → TalliesTaken tally b question taken → TalliesPatterns b question tally
all_counted b question taken tally all counted = record {
  patterns = counted.patterns ∙ count_all (λ a. true) b question taken all ∙ count_each question 1 b;
  resolved = counted.resolved ∙ count_all is_resolved b question taken all;
  unresolved = counted.unresolved ∙ count_all is_unresolved b question taken all;
  refused = counted.refused ∙ count_all is_refused b question taken all;
}
