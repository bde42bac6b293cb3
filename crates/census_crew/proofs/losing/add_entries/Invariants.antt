use Rattle.std.proofs.Common.{◌≡◌, ◌+◌, drop}
use Rattle.census_bundle.specs.Tickets.{has_ticket, tickets_of}
use Rattle.census_book.specs.Losses.{lose_entries}
use Rattle.census_crew.specs.Losing.{with_entries}
use Rattle.census_crew.proofs.losing.add_entries.Given as goal

abbrev pub invariant-loop-i : goal.invariant-loop-i
invariant-loop-i l =
    with_entries l.copy (lose_entries (λ t. has_ticket (tickets_of l.lost) t) l.c (1 + l.i) (drop l.i l.folder.entries))
    ≡ with_entries l.fn.copy (lose_entries (λ t. has_ticket (tickets_of l.lost) t) l.c 1 l.folder.entries)
