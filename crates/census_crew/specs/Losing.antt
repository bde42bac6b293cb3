-- The tickets that were left, and the copying of a bundle.
use Rattle.std.specs.Prelude.{List, [], ◌∷◌, All}
use Rattle.census_bundle.specs.declared.bundle.Entry.{Entry}
use Rattle.census_bundle.specs.declared.bundle.Folder.{Folder}
use Rattle.census_bundle.specs.declared.ticket.Ticket.{Ticket}
use Rattle.census_bundle.specs.Growing.{with_entry}
use Rattle.census_bundle.specs.Tickets.{IsTicketOf, Tickets}
use Rattle.census_book.specs.Losses.{AreMissing}

-- these are tickets of the bundle, and none of them was taken
pub record Misses (b : List Folder) (taken : Tickets) (tickets : List Ticket) : Type 0 where
  pub of_bundle : All (IsTicketOf b) tickets
  pub missing : AreMissing taken tickets

-- these entries were added, one after another, at the end of the last folder
abbrev pub with_entries : List Folder → List Entry → List Folder
with_entries b [] = b
with_entries b (e ∷ es) = with_entries (with_entry b e) es
