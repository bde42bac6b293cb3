use Rattle.census_crew.specs.Losing.{Misses}
use Rattle.census_crew.proofs.losing.push_missing_of.Given as goal

abbrev pub invariant-loop-i : goal.invariant-loop-i
invariant-loop-i l = Misses l.collector.bundle l.collector.taken l.tickets.items
