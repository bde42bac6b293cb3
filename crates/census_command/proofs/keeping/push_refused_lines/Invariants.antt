use Rattle.std.proofs.Common.{◌≡◌, ◌++◌, drop}
use Rattle.census_command.specs.Keeps.{refused_lines}
use Rattle.census_command.proofs.keeping.push_refused_lines.Given as goal

abbrev pub invariant-loop-i : goal.invariant-loop-i
invariant-loop-i l = l.lines.items ++ refused_lines l.bundle (drop l.i l.refused) ≡ l.fn.lines.items ++ refused_lines l.bundle l.refused
