use Rattle.std.proofs.Common.{◌≡◌, ◌++◌, map, take}
use Rattle.census_format.specs.Lines.{emits_row}
use Rattle.census_rows.specs.Lines.{text_of}
use Rattle.census_format.proofs.engines.push_emits.Given as goal

abbrev pub invariant-loop-part : goal.invariant-loop-part
invariant-loop-part l =
    l.text.items ≡ l.fn.text.items ++ text_of (map (emits_row l.ticket.folder l.ticket.number l.number) (take l.part-index l.parts))
