use Rattle.census_crew.specs.Losing.{Misses}
use Rattle.census_crew.proofs.losing.list_missing.Given as goal

abbrev pub invariant-loop-k : goal.invariant-loop-k
invariant-loop-k l = Misses l.collector.bundle l.collector.taken l.tickets.items
