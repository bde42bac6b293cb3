use Rattle.std.proofs.Common.{◌≡◌, ◌+◌, ◌++◌, drop, map}
use Rattle.census_table.specs.Entries.{all_entries}
use Rattle.census_compare.specs.Index.{entry_known, spot_known}
use Rattle.census_compare.proofs.index.spots_in.Given as goal

abbrev pub invariant-loop-collection : goal.invariant-loop-collection
invariant-loop-collection l =
    map (spot_known l.sections) l.spots.items ++ map entry_known (all_entries (l.collection + 1) (drop l.collection l.sections))
    ≡ map entry_known (all_entries 1 l.sections)
