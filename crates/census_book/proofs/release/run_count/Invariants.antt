use Rattle.std.proofs.Common.{◌≡◌, ℕ, ◌+◌, ◌<◌, true}
use Rattle.census_bundle.specs.Tickets.{has_ticket, ticket}
use Rattle.census_book.proofs.release.run_count.Given as goal

abbrev pub invariant-loop-i : goal.invariant-loop-i
invariant-loop-i l = (j : ℕ) → j < l.i → has_ticket l.arrival.taken (ticket l.c (1 + j)) ≡ true
