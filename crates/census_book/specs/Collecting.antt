-- The effect of a result on a collector.
use Rattle.std.specs.Prelude.{◌≡◌, ◌≢◌, ℕ, true, false, List, Some}
use Rattle.std.specs.declared.cmp.Ordering.TheVariants.{Less}
use Rattle.census_bundle.specs.declared.bundle.Entry.{Entry}
use Rattle.census_bundle.specs.declared.bundle.Folder.{Folder}
use Rattle.census_bundle.specs.declared.ticket.Ticket.{Ticket}
use Rattle.census_book.specs.declared.offer.Offer.{Offer}
use Rattle.census_book.specs.declared.offer.Offer.TheVariants.{Stranger, Double, Taken}
use Rattle.census_bundle.specs.Tickets.{Tickets, entry_at, has_ticket, ticket_cmp, IsTicketOf}
use Rattle.census_book.specs.Progress.{Progress, with_taken}
use Rattle.census_book.specs.Work.{Work}
use Rattle.life_answer.specs.declared.question.Question.{Question}

-- the ticket is one of the bundle's, the entry that was worked has the text of that ticket and is lost exactly if it is, and
-- the questions agree
pub record Belongs (b : List Folder) (question : Question) (t : Ticket) (worked : Entry) (asked : Question) : Type 0 where
  pub entry : Entry
  pub at : entry_at b t ≡ Some entry
  pub same_text : entry.text ≡ worked.text
  pub same_loss : entry.is_lost ≡ worked.is_lost
  pub same_question : question ≡ asked

-- this is the result of a ticket of the bundle
pub record IsResult (b : List Folder) (question : Question) (t : Ticket) (w : Work) : Type 0 where
  pub own : w.ticket ≡ t
  pub belongs : Belongs b question t w.entry w.question

-- each ticket of the collection c is taken
abbrev pub HasCollection : List Folder → Tickets → ℕ → Type 0
HasCollection b taken c = (t : Ticket) → IsTicketOf b t → t.folder ≡ c → has_ticket taken t ≡ true

-- the result was worked for a ticket of this bundle, on the text of that ticket, for this question
abbrev pub IsResultOf : List Folder → Question → Work → Type 0
IsResultOf b question w = Belongs b question w.ticket w.entry w.question

-- the offer that is returned for a result if these tickets were taken
abbrev pub Judged : List Folder → Question → Tickets → Work → Offer → Type 0
Judged b question taken w Stranger = IsResultOf b question w → ⊥
Judged b question taken w Double = IsResultOf b question w × (has_ticket taken w.ticket ≡ true)
Judged b question taken w Taken = IsResultOf b question w × (has_ticket taken w.ticket ≡ false)

-- the collector afterwards
abbrev pub after_offer : Progress → Ticket → Offer → Progress
after_offer p t Stranger = p
after_offer p t Double = p
after_offer p t Taken = with_taken p t

-- a collector before a result is offered, the result, the collector afterwards, and the offer that is returned
abbrev pub Offered : Progress → Work → Progress → Offer → Type 0
Offered before w after o = Judged before.bundle before.question before.taken w o × (after ≡ after_offer before w.ticket o)

-- the least ticket that is not taken
pub record IsLeastMissing (b : List Folder) (taken : Tickets) (t : Ticket) : Type 0 where
  pub of_bundle : IsTicketOf b t
  pub not_taken : has_ticket taken t ≡ false
  pub least : (u : Ticket) → IsTicketOf b u → has_ticket taken u ≡ false → ticket_cmp u t ≢ Less
