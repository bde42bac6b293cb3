-- Lists of arrivals.
use Rattle.std.specs.Prelude.{◌≡◌, ℕ, false, List, [], ◌∷◌, ◌++◌}
use Rattle.census_bundle.specs.declared.bundle.Folder.{Folder}
use Rattle.census_bundle.specs.declared.ticket.Ticket.{Ticket}
use Rattle.census_bundle.specs.Tickets.{Tickets, no_tickets, with_ticket, has_ticket, IsTicketOf, HasAllTickets}
use Rattle.census_book.specs.declared.offer.Offer.{Offer}
use Rattle.census_book.specs.Collecting.{Offered}
use Rattle.census_book.specs.Progress.{Progress, initial_progress}
use Rattle.census_format.specs.Reports.{IsReport, IsReportFront, text_at_start, text_released}
use Rattle.census_book.specs.Work.{Work}
use Rattle.life_answer.specs.declared.question.Question.{Question}

-- the tickets are the bundle's, none of them taken, and each is listed once
abbrev pub AreNew : List Folder → Tickets → List Ticket → Type 0
AreNew b taken [] = Unit {0}
AreNew b taken (t ∷ ts) = IsTicketOf b t × (has_ticket taken t ≡ false) × AreNew b (with_ticket taken t) ts

-- the text that is released by taking the tickets one after another
abbrev pub texts_released : List Folder → Question → Tickets → List Ticket → List ℕ
texts_released b question taken [] = []
texts_released b question taken (t ∷ ts) = text_released b question taken t ++ texts_released b question (with_ticket taken t) ts

-- these tickets, and then the others one after another
abbrev pub with_all : Tickets → List Ticket → Tickets
with_all taken [] = taken
with_all taken (t ∷ ts) = with_all (with_ticket taken t) ts

-- whatever the order of arrival, the text that is released begins a report, and it is one if all tickets arrived
abbrev pub OrdersAreLawful : Type 0
OrdersAreLawful =
    (b : List Folder) (question : Question) (ts : List Ticket) → AreNew b no_tickets ts
    → IsReportFront b question (text_at_start b question ++ texts_released b question no_tickets ts)
    × (HasAllTickets b (with_all no_tickets ts) → IsReport b question (text_at_start b question ++ texts_released b question no_tickets ts))

-- the second is what the first becomes if these results are offered to it one after another
abbrev pub OfferedAll : Progress → List Work → Progress → Type 0
OfferedAll p [] r = r ≡ p
OfferedAll p (w ∷ ws) r = (q : Progress) × (o : Offer) × Offered p w q o × OfferedAll q ws r

-- Whatever results are offered, in whatever order, some of them twice or of another bundle or question: the text that is
-- released begins a report, and it is one if no ticket is missing.
abbrev pub ArrivalsAreLawful : Type 0
ArrivalsAreLawful =
    (b : List Folder) (question : Question) (ws : List Work) (p : Progress) → OfferedAll (initial_progress b question) ws p
    → IsReportFront b question p.unsent × (HasAllTickets b p.taken → IsReport b question p.unsent)
