use Rattle.std.proofs.Common.{◌≡◌, map, take}
use Rattle.census_compare.specs.Starts.{start_of}
use Rattle.census_compare.specs.StartsRead.{start_read}
use Rattle.census_compare.proofs.starts.tolds_of.Given as goal

abbrev pub invariant-loop-start : goal.invariant-loop-start
invariant-loop-start l = map start_of l.tolds.items ≡ map start_read (take l.start-index l.starts)
