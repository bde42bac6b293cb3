-- Codes by which proofs distinguish the values of tickets, folders and sets of tickets.
use Rattle.std.specs.Coded.{Coded}
use Rattle.std.specs.FinSet.{code}
use Rattle.census_bundle.specs.contracts.ticket.Ticket as ticket_row
use Rattle.census_bundle.specs.contracts.bundle.Folder as folder_row
use Rattle.census_bundle.specs.declared.ticket.Ticket.{Ticket}
use Rattle.census_bundle.specs.declared.bundle.Folder.{Folder}
use Rattle.census_bundle.specs.Tickets.{Tickets, ticket_cmp}

pub ticket_code : Coded Ticket
ticket_code = (ticket_row.the_row).coded

pub folder_code : Coded Folder
folder_code = (folder_row.the_row).coded

pub tickets_code : Coded Tickets
tickets_code = code {R = ticket_cmp} ticket_code
