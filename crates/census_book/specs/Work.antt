-- The work that was done.
use Rattle.std.specs.Coded.{Coded, codes}
use Rattle.census_bundle.specs.contracts.bundle.Entry as entry_row
use Rattle.census_bundle.specs.Coded.{ticket_code}
use Rattle.life_answer.specs.Questions.{question_code}
use Rattle.census_bundle.specs.declared.ticket.Ticket.{Ticket}
use Rattle.census_bundle.specs.declared.bundle.Entry.{Entry}
use Rattle.life_answer.specs.declared.question.Question.{Question}

-- a ticket, the pattern that was worked for it, and the question
pub record Work : Type 0 where
  pub ticket : Ticket
  pub entry : Entry
  pub question : Question

pub entry_code : Coded Entry
entry_code = (entry_row.the_row).coded

pub work_code : Coded Work
work_code = hlevel (codes, ticket_code, entry_code, question_code)
