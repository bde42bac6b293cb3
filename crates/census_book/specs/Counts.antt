-- The numbers of patterns of a kind, in all and among those taken.
use Rattle.std.specs.Prelude.{◌≡◌, ℕ, suc, ◌+◌, Some, Bool, false, if◌then◌else◌, List, [], ◌∷◌}
use Rattle.census_bundle.specs.declared.bundle.Entry.{Entry}
use Rattle.census_bundle.specs.declared.bundle.Folder.{Folder}
use Rattle.census_bundle.specs.declared.ticket.Ticket.{Ticket}
use Rattle.life_answer.specs.declared.finding.Answer.{Answer}
use Rattle.census_bundle.specs.Tickets.{Tickets, ticket, has_ticket, with_ticket, entry_at}
use Rattle.life_answer.specs.declared.question.Question.{Question}
use Rattle.census_format.specs.Lines.{answer_to_entry}

-- the sum of the values of g for each element and its number, the first of which is i
abbrev pub numbered_sum : {A : Type 0} → (ℕ → A → ℕ) → ℕ → List A → ℕ
numbered_sum g i [] = 0
numbered_sum g i (x ∷ xs) = g i x + numbered_sum g (suc i) xs

-- the sum of the weights of all patterns
abbrev pub bundle_weight : (Ticket → Entry → ℕ) → List Folder → ℕ
bundle_weight w b = numbered_sum (λ c (f : Folder). numbered_sum (λ i e. w (ticket c i) e) 1 f.entries) 1 b

abbrev pub one_if : Bool → ℕ
one_if b = if b then 1 else 0

-- the number of patterns of this kind
abbrev pub count_of : (Answer → Bool) → List Folder → Question → ℕ
count_of kind b question = bundle_weight (λ t e. one_if (kind (answer_to_entry question e))) b

-- the number of those taken that are of this kind
abbrev pub taken_count : (Answer → Bool) → List Folder → Question → Tickets → ℕ
taken_count kind b question taken = bundle_weight (λ t e. if has_ticket taken t then one_if (kind (answer_to_entry question e)) else 0) b

-- the number of patterns that are not taken
abbrev pub missing_count : List Folder → Tickets → ℕ
missing_count b taken = bundle_weight (λ t e. if has_ticket taken t then 0 else 1) b

-- taking a ticket adds its pattern to those of its kind, and leaves one fewer missing
abbrev pub CountsStep : Type 0
CountsStep =
    (b : List Folder) (taken : Tickets) (t : Ticket) (e : Entry) → entry_at b t ≡ Some e → has_ticket taken t ≡ false
    → ((kind : Answer → Bool) (question : Question) → taken_count kind b question (with_ticket taken t) ≡ taken_count kind b question taken + one_if (kind (answer_to_entry question e)))
    × (missing_count b taken ≡ missing_count b (with_ticket taken t) + 1)
