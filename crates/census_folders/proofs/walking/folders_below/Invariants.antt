use Rattle.std.proofs.Common.{◌-◌, map, string_bytes}
use Rattle.census_folders.proofs.Walked.{Walked}
use Rattle.census_folders.proofs.walking.folders_below.Given as goal

abbrev pub invariant-loop-at : goal.invariant-loop-at
invariant-loop-at g l = Walked l.on_loss (g.S.Shelf.tellings l.shelf) l.word (map string_bytes l.found.items) (map string_bytes l.chosen.items) l.fn.lost l.lost l.at

abbrev pub decreases-loop-at : goal.decreases-loop-at
decreases-loop-at g l = 18446744073709551615 - l.at
