use Rattle.std.proofs.Common.{◌≡◌, ◌++◌, map, take}
use Rattle.std.specs.List.{filter_map}
use Rattle.census_compare.specs.Starts.{start_in}
use Rattle.census_compare.specs.StartsRead.{start_read}
use Rattle.census_compare.proofs.starts.add_entries.Given as goal

abbrev pub invariant-loop-entry : goal.invariant-loop-entry
invariant-loop-entry l =
    map start_read l.starts.items ≡ map start_read l.fn.starts.items ++ filter_map (start_in l.collection) (take l.entry-index l.entries)
