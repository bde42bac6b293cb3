use Rattle.std.proofs.Common.{◌≡◌, ◌++◌, drop}
use Rattle.census_table.specs.Entries.{entries_under}
use Rattle.census_table.proofs.entry.entries_under.Given as goal

abbrev pub invariant-loop-index : goal.invariant-loop-index
invariant-loop-index l =
    l.entries.items ++ entries_under l.number l.heading (drop l.index l.rows) ≡ entries_under l.number l.heading l.rows
