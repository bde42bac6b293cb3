-- How counts change when one more ticket is taken.
use Rattle.std.proofs.Common.{◌≡◌, ℕ, zero, suc, ◌+◌, ◌<◌, ◌≤◌, Bool, false, cond, List, [], ◌∷◌, Some, refl, sym, ap, subst, ◌∙◌, arith, slice_get}
use Rattle.census_bundle.specs.declared.bundle.Entry.{Entry}
use Rattle.census_bundle.specs.declared.bundle.Folder.{Folder}
use Rattle.census_bundle.specs.declared.ticket.Ticket.{Ticket}
use Rattle.life_answer.specs.declared.finding.Answer.{Answer}
use Rattle.census_bundle.specs.Tickets.{Tickets, ticket, element_at, entry_at, has_ticket, with_ticket, IsTicketOf}
use Rattle.census_format.specs.Lines.{answer_to_entry}
use Rattle.census_book.specs.Counts.{numbered_sum, bundle_weight, one_if, taken_count, missing_count, CountsStep}
use Rattle.census_book.proofs.TicketSets.{has_other, has_same}
use Rattle.census_book.proofs.Releases.{folder_at}
use Rattle.life_answer.specs.declared.question.Question.{Question}

sum_same : {A : Type 0} (g h : ℕ → A → ℕ) (i : ℕ) (xs : List A) → ((j : ℕ) (x : A) → i ≤ j → h j x ≡ g j x) → numbered_sum h i xs ≡ numbered_sum g i xs
sum_same g h i [] same = refl
sum_same g h i (x ∷ xs) same =
    let rest = sum_same g h (suc i) xs (λ j y le. same j y (omega arith)) in
    let here = same i x (omega arith) in
    omega arith

-- if two weights differ at one number alone, by n, so do their sums
sum_step : {A : Type 0} (g h : ℕ → A → ℕ) (n i k d : ℕ) (xs : List A) (x : A) → d ≡ i + k → ((j : ℕ) (y : A) → (j ≡ d → ⊥) → h j y ≡ g j y) → h d x ≡ g d x + n → slice_get xs k ≡ Some x → numbered_sum h i xs ≡ numbered_sum g i xs + n
sum_step g h n i k d [] x at same more is = absurd (cc)
sum_step g h n i zero d (y ∷ ys) x at same more is =
    let first : y ≡ x = cc in
    let here : d ≡ i = omega arith in
    let rest = sum_same g h (suc i) ys (λ j z le. same j z (λ e. absurd (omega arith))) in
    let grows : h i y ≡ g i y + n = subst (λ z. h i z ≡ g i z + n) (sym first) (subst (λ m. h m x ≡ g m x + n) here more) in
    omega arith
sum_step g h n i (suc k) d (y ∷ ys) x at same more is =
    let rest = sum_step g h n (suc i) k d ys x (omega arith) same more is in
    let here = same i y (λ e. absurd (omega arith)) in
    omega arith

number_index : {A : Type 0} (xs : List A) (d : ℕ) (x : A) → element_at xs d ≡ Some x → (k : ℕ) × (d ≡ 1 + k) × (slice_get xs k ≡ Some x)
number_index xs zero x is = absurd (cc)
number_index xs (suc k) x is = (k, omega arith, is)

-- if two weights differ at one ticket alone, by n, so do their sums
weight_step : (w v : Ticket → Entry → ℕ) (n : ℕ) (b : List Folder) (t : Ticket) (e : Entry) → ((u : Ticket) (x : Entry) → (u ≡ t → ⊥) → v u x ≡ w u x) → v t e ≡ w t e + n → entry_at b t ≡ Some e → bundle_weight v b ≡ bundle_weight w b + n
weight_step w v n b t e same more at =
    let f = folder_at (element_at b t.folder) t.number e at in
    let j = number_index b t.folder f.0 f.1 in
    let k = number_index f.0.entries t.number e f.2 in
    let c = t.folder in
    sum_step (λ d (g : Folder). numbered_sum (λ i x. w (ticket d i) x) 1 g.entries) (λ d (g : Folder). numbered_sum (λ i x. v (ticket d i) x) 1 g.entries) n 1 j.0 c b f.0 j.1
    (λ d g other. sum_same (λ i x. w (ticket d i) x) (λ i x. v (ticket d i) x) 1 g.entries (λ i x le. same (ticket d i) x (λ is. other (ap (λ (u : Ticket). u.folder) is))))
    (sum_step (λ i x. w (ticket c i) x) (λ i x. v (ticket c i) x) n 1 k.0 t.number f.0.entries e k.1 (λ i x other. same (ticket c i) x (λ is. other (ap (λ (u : Ticket). u.number) is))) more k.2)
    j.2

-- a ticket that is taken adds its pattern to those of its kind
pub count_more : (kind : Answer → Bool) (b : List Folder) (question : Question) (taken : Tickets) (t : Ticket) (e : Entry) → entry_at b t ≡ Some e → has_ticket taken t ≡ false
    → taken_count kind b question (with_ticket taken t) ≡ taken_count kind b question taken + one_if (kind (answer_to_entry question e))
count_more kind b question taken t e at not =
    weight_step _ _ _ b t e (λ u x other. ap (λ (has : Bool). cond has (one_if (kind (answer_to_entry question x))) 0) (has_other taken t u other))
    (ap (λ (has : Bool). cond has (one_if (kind (answer_to_entry question e))) 0) (has_same taken t)
    ∙ sym (ap (λ (has : Bool). cond has (one_if (kind (answer_to_entry question e))) 0 + one_if (kind (answer_to_entry question e))) not ∙ omega arith))
    at

-- and leaves one fewer missing
pub missing_less : (b : List Folder) (taken : Tickets) (t : Ticket) → IsTicketOf b t → has_ticket taken t ≡ false → missing_count b taken ≡ missing_count b (with_ticket taken t) + 1
missing_less b taken t of not =
    weight_step _ _ 1 b t of.0 (λ u x other. ap (λ (has : Bool). cond has 0 1) (sym (has_other taken t u other)))
    (ap (λ (has : Bool). cond has 0 1) not ∙ sym (ap (λ (has : Bool). cond has 0 1 + 1) (has_same taken t) ∙ omega arith))
    of.1

pub counts_step : CountsStep
counts_step b taken t e at not =
    (λ kind question. count_more kind b question taken t e at not, missing_less b taken t (e, at) not)

pub missing_smaller : (b b' : List Folder) (taken taken' : Tickets) (t u : Ticket) → b' ≡ b → taken' ≡ with_ticket taken u → u ≡ t → IsTicketOf b t → has_ticket taken t ≡ false → missing_count b' taken' < missing_count b taken
missing_smaller b b' taken taken' t u same_b is same of not =
    let less = missing_less b taken t of not in
    let e : missing_count b' taken' ≡ missing_count b (with_ticket taken t) = ap (λ fs. missing_count fs taken') same_b ∙ ap (missing_count b) (is ∙ ap (with_ticket taken) same) in
    omega arith
