use Rattle.std.proofs.Common.{◌≡◌, ◌++◌, take}
use Rattle.census_format.specs.Lines.{rows_of_engines}
use Rattle.census_rows.specs.Lines.{text_of}
use Rattle.census_format.proofs.engines.push_engines.Given as goal

abbrev pub invariant-loop-n : goal.invariant-loop-n
invariant-loop-n l =
    l.text.items ≡ l.fn.text.items ++ text_of (rows_of_engines l.ticket.folder l.ticket.number 1 (take l.n l.lines))
