use Rattle.std.proofs.Common.{◌≡◌, ◌++◌, drop}
use Rattle.census_facts.specs.Facts.{things_in}
use Rattle.census_facts.specs.Lines.{things_lines}
use Rattle.census_facts.proofs.lines.push_facts.Given as goal

abbrev pub invariant-loop-fact : goal.invariant-loop-fact
invariant-loop-fact l =
    l.text.items ++ things_lines l.names (things_in (drop l.fact-index l.facts)) ≡ l.fn.text.items ++ things_lines l.names (things_in l.facts)
