use Rattle.std.proofs.Common.{MatchOption, subst, ◌∙◌}
use Rattle.life_tile.proofs.Edges.{set_span_of_ends, set_span_of_none}
use Rattle.life_board.specs.Squares.{members_of, AreEnds, HasNoMember}
use Rattle.life_board.proofs.small.Square.span.Goals as goal

pub returns-in-Some : goal.returns-in-Some
returns-in-Some c =
    c.move_between.ensures
    ∙ set_span_of_ends (members_of c.args.self.now) (record { first = c.in-Some.ends.0; last = c.in-Some.ends.1 }) c.in-Some.ensures

pub returns-in-None : goal.returns-in-None
returns-in-None c =
    set_span_of_none (members_of c.args.self.now)
    (subst (λ r. MatchOption r (HasNoMember (members_of c.args.self.now)) (AreEnds (members_of c.args.self.now))) c.in-None.is c.ends.ensures)
