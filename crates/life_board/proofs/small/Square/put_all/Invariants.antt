use Rattle.std.proofs.Common.{◌≡◌, take}
use Rattle.life_model.specs.Generation.{from_list}
use Rattle.life_board.specs.Squares.{members_of, IsSquare}
use Rattle.life_board.proofs.small.Square.put_all.Given as goal

abbrev pub invariant-loop-cell : goal.invariant-loop-cell
invariant-loop-cell l = record {
  kept : IsSquare l.self;
  age : l.self.age ≡ l.fn.self.age;
  members : members_of l.self ≡ from_list (take l.cell-index l.cells);
}
