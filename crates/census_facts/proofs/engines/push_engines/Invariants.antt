use Rattle.std.proofs.Common.{◌≡◌, ◌++◌, take}
use Rattle.census_facts.specs.Lines.{engines_lines, text_of}
use Rattle.census_facts.proofs.engines.push_engines.Given as goal

abbrev pub invariant-loop-n : goal.invariant-loop-n
invariant-loop-n l = l.text.items ≡ l.fn.text.items ++ text_of (engines_lines l.names 1 (take l.n l.lines))
