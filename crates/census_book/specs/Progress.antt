-- The values that a collector is seen as.
use Rattle.std.specs.Prelude.{ℕ, List, ◌++◌, drop}
use Rattle.census_bundle.specs.declared.bundle.Folder.{Folder}
use Rattle.census_bundle.specs.declared.ticket.Ticket.{Ticket}
use Rattle.census_bundle.specs.Tickets.{Tickets, no_tickets, with_ticket}
use Rattle.census_format.specs.Reports.{text_at_start, text_released}
use Rattle.life_answer.specs.declared.question.Question.{Question}

-- the tickets of a bundle that were taken
pub record Taken : Type 0 where
  pub bundle : List Folder
  pub question : Question
  pub taken : Tickets

abbrev pub taken_of : List Folder → Question → Tickets → Taken
taken_of b question taken = record { bundle = b; question = question; taken = taken }

-- the tickets that are taken once one more arrives, and that one's collection
pub record Arrived : Type 0 where
  pub bundle : List Folder
  pub question : Question
  pub taken : Tickets
  pub folder : ℕ

abbrev pub arrived_of : Taken → Ticket → Arrived
arrived_of r t = record { bundle = r.bundle; question = r.question; taken = with_ticket r.taken t; folder = t.folder }

-- the tickets taken, and the text that was released and not yet written
pub record Progress : Type 0 where
  pub bundle : List Folder
  pub question : Question
  pub taken : Tickets
  pub unsent : List ℕ

abbrev pub initial_progress : List Folder → Question → Progress
initial_progress b question = record { bundle = b; question = question; taken = no_tickets; unsent = text_at_start b question }

abbrev pub with_taken : Progress → Ticket → Progress
with_taken p t = record {
  bundle = p.bundle;
  question = p.question;
  taken = with_ticket p.taken t;
  unsent = p.unsent ++ text_released p.bundle p.question p.taken t;
}

-- the progress without the first n bytes of the text
abbrev pub sent_of : Progress → ℕ → Progress
sent_of p n = record { bundle = p.bundle; question = p.question; taken = p.taken; unsent = drop n p.unsent }
