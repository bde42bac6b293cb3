use Rattle.std.proofs.Common.{◌≡◌, ◌++◌, map, take}
use Rattle.census_facts.specs.Lines.{emits_line, text_of}
use Rattle.census_facts.proofs.engines.push_emits.Given as goal

abbrev pub invariant-loop-part : goal.invariant-loop-part
invariant-loop-part l = l.text.items ≡ l.fn.text.items ++ text_of (map (emits_line l.names l.number) (take l.part-index l.parts))
