use Rattle.std.proofs.Common.{MatchOption, sym, subst}
use Rattle.life_board.specs.Squares.{members_of, AreEnds, HasNoMember}
use Rattle.life_board.proofs.EndCells.{none_shown, shown_ends}
use Rattle.life_board.proofs.small.Square.ends.Goals as goal

pub returns-in_err-left : goal.returns-in_err-left
returns-in_err-left c =
    subst (λ r. MatchOption r (HasNoMember (members_of c.args.self.now)) (AreEnds (members_of c.args.self.now))) (sym c.from_residual.ensures)
    (none_shown c.args.self.now.left c.args.self.now.top c.args.self.now.tile c.in_err-left.ensures)

pub returns : goal.returns
returns c =
    shown_ends c.args.self.now.left c.args.self.now.top c.args.self.now.tile c.in_ok-left.left c.in_ok-left.top c.in_ok-right.right c.in_ok-right.bottom c.cell_at.result c.cell_at-2.result
    c.in_ok-left.ensures c.in_ok-right.ensures c.cell_at.ensures c.cell_at-2.ensures
