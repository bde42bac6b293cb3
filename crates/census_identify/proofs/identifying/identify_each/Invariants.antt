use Rattle.std.proofs.Common.{[], take}
use Rattle.census_identify.proofs.Words.{IsUnderWay, texts}
use Rattle.census_identify.proofs.identifying.identify_each.Given as goal

abbrev pub invariant-loop-word : goal.invariant-loop-word
invariant-loop-word g l =
    IsUnderWay ((g.S.Shelf.tellings l.shelf).held []) l.inquiry l.names (texts (take l.word-index l.words)) l.course
    l.fn.streams (record { input = l.input.stream; output = l.output.stream; errors = l.errors.stream })
