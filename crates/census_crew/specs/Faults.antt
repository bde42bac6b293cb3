-- The faults that a run returns.
use Rattle.std.specs.Prelude.{◌≡◌, Bool, true, false, List, None, Some, Ok, Err, Result}
use Rattle.census_bundle.specs.Tickets.{IsTicketOf}
use Rattle.census_bundle.specs.declared.bundle.Folder.{Folder}
use Rattle.census_bundle.specs.declared.ticket.Ticket.{Ticket}
use Rattle.census_faults.specs.declared.run_fault.RunFault.{RunFault}
use Rattle.census_faults.specs.declared.run_fault.RunFault.TheVariants.{Memory, Write}

-- `Write` is returned if and only if the writer has failed
abbrev pub FitsFault : {A : Type 0} → Result A RunFault → Bool → Type 0
FitsFault (Ok a) failed = failed ≡ false
FitsFault (Err (Memory ticket)) failed = failed ≡ false
FitsFault (Err Write) failed = failed ≡ true

-- if memory was refused, the fault has this ticket
abbrev pub TellsTicket : Ticket → RunFault → Type 0
TellsTicket ticket (Memory told) = told ≡ Some ticket
TellsTicket ticket Write = Unit {0}

-- if memory was refused, the fault has a ticket of the bundle
abbrev pub TellsTicketOf : List Folder → RunFault → Type 0
TellsTicketOf b (Memory None) = ⊥
TellsTicketOf b (Memory (Some ticket)) = IsTicketOf b ticket
TellsTicketOf b Write = Unit {0}

-- if memory was refused, the fault has no ticket
abbrev pub TellsNoTicket : RunFault → Type 0
TellsNoTicket (Memory None) = Unit {0}
TellsNoTicket (Memory (Some ticket)) = ⊥
TellsNoTicket Write = Unit {0}

-- if the fault has a ticket, it is one of the bundle's
abbrev pub MayTellTicket : List Folder → RunFault → Type 0
MayTellTicket b (Memory None) = Unit {0}
MayTellTicket b (Memory (Some ticket)) = IsTicketOf b ticket
MayTellTicket b Write = Unit {0}
