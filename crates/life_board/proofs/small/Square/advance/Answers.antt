use Rattle.std.proofs.Common.{◌∙◌, arith}
use Rattle.life_board.specs.Squares.{members_of, shown}
use Rattle.life_cells.proofs.Within.{within_next}
use Rattle.life_board.proofs.Nexts.{next_shown}
use Rattle.life_board.proofs.small.Square.advance.Goals as goal

pub shrink-requires : goal.shrink-requires
shrink-requires c = record {
  place = c.requires.kept.place;
  young = omega arith;
  void = c.advance-self.ensures.void;
  columns = c.advance-self.ensures.columns;
  within =
      within_next c.args.rule.now (members_of c.args.self.now) (shown c.args.self.now.left c.args.self.now.top c.advance-self.new.tile) c.args.self.now.age
      (next_shown c.args.self.now.left c.args.self.now.top c.args.self.now.tile c.requires.room.inner c.args.rule.now c.advance-self.new.tile c.advance-self.ensures.next)
      c.requires.kept.within;
}

pub returns-clause-members : goal.returns-clause-members
returns-clause-members c =
    c.shrink.ensures.members
    ∙ next_shown c.args.self.now.left c.args.self.now.top c.args.self.now.tile c.requires.room.inner c.args.rule.now c.advance-self.new.tile c.advance-self.ensures.next
