-- A bundle some of whose texts are lost.
use Rattle.std.specs.Prelude.{◌≡◌, ℕ, suc, Bool, true, false, List, [], ◌∷◌, if◌then◌else◌}
use Rattle.census_bundle.specs.declared.bundle.Entry.{Entry}
use Rattle.census_bundle.specs.declared.bundle.Folder.{Folder}
use Rattle.census_bundle.specs.declared.ticket.Ticket.{Ticket}
use Rattle.census_bundle.specs.Entries.{lost_entry}
use Rattle.census_bundle.specs.Tickets.{Tickets, has_ticket, ticket, tickets_of}
use Rattle.census_book.specs.Progress.{Progress}

-- the entry, or if it is lost, an entry of its name without its text
abbrev pub lose_if : Bool → Entry → Entry
lose_if is_lost e = if is_lost then lost_entry e.name else e

-- the entries of the collection c, the first of which has the number i, with the texts of these tickets lost
abbrev pub lose_entries : (Ticket → Bool) → ℕ → ℕ → List Entry → List Entry
lose_entries lost c i [] = []
lose_entries lost c i (e ∷ es) = lose_if (lost (ticket c i)) e ∷ lose_entries lost c (suc i) es

abbrev pub lose_folder : (Ticket → Bool) → ℕ → Folder → Folder
lose_folder lost c f = record { name = f.name; entries = lose_entries lost c 1 f.entries }

-- the collections, the first of which has the number c, with the texts of these tickets lost
abbrev pub lose_folders : (Ticket → Bool) → ℕ → List Folder → List Folder
lose_folders lost c [] = []
lose_folders lost c (f ∷ fs) = lose_folder lost c f ∷ lose_folders lost (suc c) fs

-- the bundle with the texts of these tickets lost
abbrev pub lose_all : List Ticket → List Folder → List Folder
lose_all lost b = lose_folders (λ t. has_ticket (tickets_of lost) t) 1 b

-- none of these tickets was taken
abbrev pub AreMissing : Tickets → List Ticket → Type 0
AreMissing taken lost = (t : Ticket) → has_ticket taken t ≡ true → has_ticket (tickets_of lost) t ≡ false

-- the second bundle is the first with the texts of some tickets that were not taken lost
pub record Loses (b : List Folder) (taken : Tickets) (lossy : List Folder) : Type 0 where
  pub lost : List Ticket
  pub missing : AreMissing taken lost
  pub is : lossy ≡ lose_all lost b

-- the collector with this bundle instead of its own
abbrev pub over : List Folder → Progress → Progress
over b p = record { bundle = b; question = p.question; taken = p.taken; unsent = p.unsent }
