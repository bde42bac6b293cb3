use Rattle.std.proofs.Common.{take, length, ◌<◌}
use Rattle.census_folders.specs.Reading.{KeepsFiles}
use Rattle.census_folders.proofs.Listings.{bytes_of}
use Rattle.census_folders.proofs.reading.fill_folder.Given as goal

abbrev pub invariant-loop-name : goal.invariant-loop-name
invariant-loop-name g l = KeepsFiles l.on_loss ((g.S.Shelf.tellings l.shelf).held l.word) l.word l.fn.kept (bytes_of (take l.name-index l.name-items)) l.kept × (0 < length l.kept.bundle)
