use Rattle.std.proofs.Common.{◌≡◌, ◌<◌, pos, ◌+ℤ◌, arith}
use Rattle.std.proofs.lemmas.Int.{ints}
use Rattle.life_model.specs.Generation.{insert}
use Rattle.life_board.specs.Squares.{shown, members_of}
use Rattle.life_board.proofs.Columns.{columns_put}
use Rattle.life_board.proofs.Puts.{shown_put, void_widened, within_put}
use Rattle.life_board.proofs.small.Square.put.Goals as goal

module _ (c : goal.After-make_live) where
  at : c.args.cell ≡ (c.args.self.now.left +ℤ pos c.in_ok-x.x, c.args.self.now.top +ℤ pos c.in_ok-y.y)
  at =
      let young = c.requires.kept.young in
      let place = c.requires.kept.place in
      let across : c.args.cell.0 ≡ (c.args.self.now.left +ℤ pos c.in_ok-x.x) = omega (arith, ints, c.in_ok-x.ensures.is, c.requires.within.left, c.requires.within.right) in
      let down : c.args.cell.1 ≡ (c.args.self.now.top +ℤ pos c.in_ok-y.y) = omega (arith, ints, c.in_ok-y.ensures.is, c.requires.within.above, c.requires.within.below) in
      λ i. (across i, down i)

  wide : c.in_ok-x.x < 64
  wide = (let less = c.in_ok-x.ensures.last in omega arith)

  high : c.in_ok-y.y < 64
  high = (let less = c.in_ok-y.ensures.last in omega arith)

  put : shown c.args.self.now.left c.args.self.now.top c.make_live.new.tile ≡ insert (members_of c.args.self.now) c.args.cell
  put =
      shown_put c.args.self.now.left c.args.self.now.top c.args.self.now.tile c.make_live.new.tile c.in_ok-x.x c.in_ok-y.y c.args.cell
      wide high at c.make_live.ensures.here c.make_live.ensures.elsewhere

pub returns-clause-kept : goal.returns-clause-kept
returns-clause-kept c = record {
  place = c.requires.kept.place;
  young = c.requires.kept.young;
  void = void_widened c.args.self.now.tile.rows c.make_live.new.tile.rows c.args.self.now.first c.args.self.now.end c.min-self.result c.max-self.result c.in_ok-y.y c.requires.kept.void (high c) c.min-self.ensures c.max-self.ensures c.make_live.ensures.others;
  columns = columns_put c.args.self.now.tile c.make_live.new.tile c.args.self.now.columns c.in_ok-x.x c.in_ok-y.y (wide c) (high c) c.requires.kept.columns c.make_live.ensures.here c.make_live.ensures.elsewhere;
  within = within_put (members_of c.args.self.now) (shown c.args.self.now.left c.args.self.now.top c.make_live.new.tile) c.args.cell c.args.self.now.age (put c) c.requires.within c.requires.kept.within;
}

pub returns-clause-members : goal.returns-clause-members
returns-clause-members c = put c
