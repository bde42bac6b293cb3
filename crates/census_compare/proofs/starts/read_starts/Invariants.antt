use Rattle.std.proofs.Common.{◌≡◌, map, take}
use Rattle.census_compare.specs.Starts.{starts_of}
use Rattle.census_compare.specs.StartsRead.{start_read}
use Rattle.census_compare.proofs.starts.read_starts.Given as goal

abbrev pub invariant-loop-folder : goal.invariant-loop-folder
invariant-loop-folder l = map start_read l.starts.items ≡ starts_of (take l.folder-index l.bundle)
