use Rattle.std.proofs.Common.{◌≡◌, take}
use Rattle.census_book.specs.Slots.{empty_slots}
use Rattle.census_book.proofs.slots.Slots.new.Given as goal

abbrev pub invariant-loop-folder : goal.invariant-loop-folder
invariant-loop-folder l = l.rows.items ≡ empty_slots (take l.folder-index l.folders)
