use Rattle.std.proofs.Common.{◌≡◌}
use Rattle.life_advance.specs.Later.{IsLater}
use Rattle.life_advance.proofs.walking.walk.Given as goal

abbrev pub invariant-loop-age : goal.invariant-loop-age
invariant-loop-age l = (l.board.1 ≡ l.age) × IsLater l.rule l.fn.board l.board
