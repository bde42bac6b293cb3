-- The places of patterns in a bundle, counted from 1.
use Rattle.std.specs.Prelude.{◌≡◌, ℕ, Bool, true, zero, suc, List, Some, None, Option, slice_get}
use Rattle.std.specs.declared.cmp.Ordering.{Ordering}
use Rattle.std.specs.Ordering.{nat_cmp, then_cmp, on}
use Rattle.std.specs.FinSet.{FinSet, empty, insert, contains, from_list}
use Rattle.census_bundle.specs.declared.ticket.Ticket.{Ticket}
use Rattle.census_bundle.specs.declared.bundle.Folder.{Folder}
use Rattle.census_bundle.specs.declared.bundle.Entry.{Entry}

abbrev pub ticket : ℕ → ℕ → Ticket
ticket c i = record { folder = c; number = i }

abbrev pub folder_of : Ticket → ℕ
folder_of t = t.folder

abbrev pub number_in_folder : Ticket → ℕ
number_in_folder t = t.number

-- the order of tickets: by folder, and then by number
abbrev pub ticket_cmp : Ticket → Ticket → Ordering
ticket_cmp = then_cmp (on folder_of nat_cmp) (on number_in_folder nat_cmp)

-- a set of tickets
abbrev pub Tickets : Type 0
Tickets = FinSet ticket_cmp

abbrev pub no_tickets : Tickets
no_tickets = empty {R = ticket_cmp}

abbrev pub with_ticket : Tickets → Ticket → Tickets
with_ticket taken t = insert taken t

abbrev pub has_ticket : Tickets → Ticket → Bool
has_ticket taken t = contains taken t

-- the element of this number, from 1
abbrev pub element_at : {A : Type 0} → List A → ℕ → Option A
element_at xs zero = None
element_at xs (suc n) = slice_get xs n

abbrev pub entry_in : Option Folder → ℕ → Option Entry
entry_in None i = None
entry_in (Some f) i = element_at f.entries i

-- the pattern of a ticket
abbrev pub entry_at : List Folder → Ticket → Option Entry
entry_at b t = entry_in (element_at b t.folder) t.number

-- the ticket is that of a pattern of the bundle
abbrev pub IsTicketOf : List Folder → Ticket → Type 0
IsTicketOf b t = (e : Entry) × (entry_at b t ≡ Some e)

-- each ticket of the bundle is in the set
abbrev pub HasAllTickets : List Folder → Tickets → Type 0
HasAllTickets b taken = (t : Ticket) → IsTicketOf b t → has_ticket taken t ≡ true

-- the set of the tickets in a list
abbrev pub tickets_of : List Ticket → Tickets
tickets_of ts = from_list {R = ticket_cmp} ts
