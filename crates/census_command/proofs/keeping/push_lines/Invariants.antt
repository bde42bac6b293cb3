use Rattle.std.proofs.Common.{◌≡◌, ◌++◌, drop}
use Rattle.census_command.specs.Keeps.{lost_lines}
use Rattle.census_command.proofs.keeping.push_lines.Given as goal

abbrev pub invariant-loop-loss : goal.invariant-loop-loss
invariant-loop-loss l = l.lines.items ++ lost_lines (drop l.loss-index l.lost) ≡ l.fn.lines.items ++ lost_lines l.lost
