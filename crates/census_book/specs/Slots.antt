-- Slots in which results are kept: for each collection, one for each of its patterns.
use Rattle.std.specs.Prelude.{◌≡◌, ℕ, suc, ◌-◌, ◌<◌, ◌≤◌, Bool, true, false, List, [], ◌∷◌, ◌++◌, length, map, replicate, is_some, Option, None, Some, slice_get, slice_index_or, slice_set}
use Rattle.census_bundle.specs.declared.bundle.Folder.{Folder}
use Rattle.census_bundle.specs.declared.ticket.Ticket.{Ticket}
use Rattle.census_bundle.specs.Tickets.{Tickets, element_at, ticket, tickets_of, IsTicketOf}
use Rattle.census_book.specs.Collecting.{IsResult}
use Rattle.census_book.specs.Work.{Work}
use Rattle.life_answer.specs.declared.question.Question.{Question}

-- the content of a slot that is taken: a result, or nothing more if the result was dropped
abbrev pub Taking : Type 0
Taking = Option Work

-- the slots of a collection
abbrev pub Row : Type 0
Row = List (Option Taking)

-- these slots, and empty ones after them, up to `len` in all
abbrev pub padded_row : {A : Type 0} → ℕ → List (Option A) → List (Option A)
padded_row len row = row ++ replicate (len - length row) None

-- a slot that is taken if a result is in it
abbrev pub kept : Option Work → Option Taking
kept None = None
kept (Some w) = Some (Some w)

-- a slot whose result, if it has one, is dropped
abbrev pub dropped : Option Taking → Option Taking
dropped None = None
dropped (Some taking) = Some None

-- the slots of a collection of which these results are kept, or whose results were all dropped
abbrev pub row_of : Bool → ℕ → List (Option Work) → Row
row_of true len results = replicate len (Some None)
row_of false len results = map kept (padded_row len results)

-- the content of a slot, if there is one
abbrev pub work_in : {A : Type 0} → Option (Option A) → Option A
work_in None = None
work_in (Some slot) = slot

-- the content of the slot of this number, from 1
abbrev pub work_at : Row → ℕ → Option Taking
work_at row i = work_in (element_at row i)

abbrev pub slot_in : Option Row → ℕ → Option Taking
slot_in None i = None
slot_in (Some row) i = work_at row i

-- the content of the slot of a ticket
abbrev pub taking_at : List Row → Ticket → Option Taking
taking_at rows t = slot_in (element_at rows t.folder) t.number

-- the result that is kept in the slot of a ticket
abbrev pub result_at : List Row → Ticket → Option Work
result_at rows t = work_in (taking_at rows t)

-- each slot is taken
abbrev pub IsFull : Row → Type 0
IsFull row = (i : ℕ) → 0 < i → i ≤ length row → is_some (work_at row i) ≡ true

-- the ticket has a slot
abbrev pub HasSlot : List Row → Ticket → Type 0
HasSlot rows t = (row : Row) × (element_at rows t.folder ≡ Some row) × (0 < t.number) × (t.number ≤ length row)

-- the slots with a result put into the slot of its ticket
abbrev pub with_result : List Row → Work → List Row
with_result rows w =
    let row = slice_index_or rows (w.ticket.folder - 1) [] in
    slice_set rows (w.ticket.folder - 1) (slice_set row (w.ticket.number - 1) (Some (Some w)))

-- the slots without the results of the collection c
abbrev pub without_results : List Row → ℕ → List Row
without_results rows c = slice_set rows (c - 1) (map dropped (slice_index_or rows (c - 1) []))

-- an empty slot for each pattern of each collection
abbrev pub empty_slots : List Folder → List Row
empty_slots b = map (λ (f : Folder). replicate (length f.entries) None) b

abbrev pub in_front : Option Taking → Ticket → List Ticket → List Ticket
in_front None t ts = ts
in_front (Some taking) t ts = t ∷ ts

-- the tickets of the collection c whose slots are taken, from number i on
abbrev pub row_tickets : ℕ → ℕ → Row → List Ticket
row_tickets c i [] = []
row_tickets c i (slot ∷ row) = in_front slot (ticket c i) (row_tickets c (suc i) row)

-- the tickets whose slots are taken, of the collections from number c on
abbrev pub rows_tickets : ℕ → List Row → List Ticket
rows_tickets c [] = []
rows_tickets c (row ∷ rows) = row_tickets c 1 row ++ rows_tickets (suc c) rows

-- the tickets whose slots are taken
abbrev pub taken_in : List Row → Tickets
taken_in rows = tickets_of (rows_tickets 1 rows)

-- each ticket of the bundle has a slot, each result in a slot is that of its ticket, and if one was dropped, each slot of
-- its collection is taken
pub record KeepsResults (b : List Folder) (question : Question) (rows : List Row) : Type 0 where
  pub slots : (k : ℕ) (f : Folder) → slice_get b k ≡ Some f → (row : Row) × (slice_get rows k ≡ Some row) × (length row ≡ length f.entries)
  pub results : (t : Ticket) (w : Work) → result_at rows t ≡ Some w → IsResult b question t w
  pub whole : (t : Ticket) → taking_at rows t ≡ Some None → (u : Ticket) → IsTicketOf b u → u.folder ≡ t.folder → is_some (taking_at rows u) ≡ true
