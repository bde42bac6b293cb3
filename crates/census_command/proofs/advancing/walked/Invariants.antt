use Rattle.std.proofs.Common.{◌≡◌}
use Rattle.life_model.specs.Evolution.{generation}
use Rattle.census_command.proofs.Advanced.{AreSmallBefore}
use Rattle.census_command.proofs.advancing.walked.Given as goal

abbrev pub invariant-loop-age : goal.invariant-loop-age
invariant-loop-age l = record {
  cells : l.board.0 ≡ generation l.rule l.fn.list l.age;
  age : l.board.1 ≡ l.age;
  small : AreSmallBefore l.rule l.fn.list l.most l.age;
}
