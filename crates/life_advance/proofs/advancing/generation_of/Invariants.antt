use Rattle.std.proofs.Common.{◌≤◌}
use Rattle.life_advance.specs.Later.{IsLater, Trails}
use Rattle.life_advance.proofs.advancing.generation_of.Given as goal

abbrev pub invariant-turns : goal.invariant-turns
invariant-turns l = (l.counter ≤ l.board.1) × (l.board.1 ≤ l.generations) × IsLater l.rule (l.list, 0) l.board × Trails l.rule l.kept l.board
