use Rattle.std.proofs.Common.{take}
use Rattle.std.specs.List.{FoldsTo}
use Rattle.census_folders.specs.Reading.{KeepsFolder, kept_at_start}
use Rattle.census_folders.proofs.Listings.{words_of}
use Rattle.census_folders.proofs.reading.read_folders.Given as goal

abbrev pub invariant-loop-word : goal.invariant-loop-word
invariant-loop-word g l = FoldsTo (KeepsFolder l.on_loss (g.S.Shelf.tellings l.shelf)) (kept_at_start l.fn.limit l.fn.way) (words_of (take l.word-index l.folders)) l.kept
