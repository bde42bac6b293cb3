use Rattle.std.proofs.Common.{◌≡◌, map, take}
use Rattle.census_format.specs.Lines.{answers}
use Rattle.census_book.proofs.release.folder_answers.Given as goal

abbrev pub invariant-loop-i : goal.invariant-loop-i
invariant-loop-i l = map (λ a. a.now) l.found.items ≡ answers l.arrival.question (take l.i l.folder.entries)
