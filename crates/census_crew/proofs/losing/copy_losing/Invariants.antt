use Rattle.std.proofs.Common.{◌≡◌, ◌+◌, ◌++◌, drop}
use Rattle.census_bundle.specs.Tickets.{has_ticket, tickets_of}
use Rattle.census_book.specs.Losses.{lose_all, lose_folders}
use Rattle.census_crew.proofs.losing.copy_losing.Given as goal

abbrev pub invariant-loop-k : goal.invariant-loop-k
invariant-loop-k l = l.copy ++ lose_folders (λ t. has_ticket (tickets_of l.lost) t) (1 + l.k) (drop l.k l.bundle) ≡ lose_all l.lost l.bundle
