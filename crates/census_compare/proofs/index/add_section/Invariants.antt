use Rattle.std.proofs.Common.{◌≡◌, ◌+◌, ◌++◌, drop, map}
use Rattle.census_table.specs.Entries.{entries_under}
use Rattle.census_compare.specs.Index.{entry_known, spot_known}
use Rattle.census_compare.proofs.index.add_section.Given as goal

abbrev pub invariant-loop-index : goal.invariant-loop-index
invariant-loop-index l =
    map (spot_known l.sections) l.spots.items ++ map entry_known (entries_under (l.collection + 1) l.heading (drop l.index l.rows))
    ≡ map (spot_known l.sections) l.fn.spots.items ++ map entry_known (entries_under (l.collection + 1) l.heading (drop 1 l.rows))
