use Rattle.std.proofs.Common.{◌≡◌, false, [], take}
use Rattle.census_reports.specs.Texts.{ReadsEach}
use Rattle.census_reports.proofs.Read.{Left, words_of}
use Rattle.census_reports.proofs.words.read_texts.Given as goal

abbrev pub invariant-loop-word : goal.invariant-loop-word
invariant-loop-word g l =
    ReadsEach ((g.S.Shelf.tellings l.shelf).held []) (words_of (take l.word-index l.words)) l.texts.items
    l.fn.input.stream l.input.stream
    × (l.input.stream.failed ≡ false) × Left l.fn.limit l.texts.items l.left
