use Rattle.std.proofs.Common.{◌≡◌, ◌++◌, map, take}
use Rattle.census_facts.specs.Lines.{part_line, text_of}
use Rattle.census_facts.proofs.lines.push_parts.Given as goal

abbrev pub invariant-loop-part : goal.invariant-loop-part
invariant-loop-part l = l.text.items ≡ l.fn.text.items ++ text_of (map (part_line l.names) (take l.part-index l.parts))
