use Rattle.std.proofs.Common.{subst}
use Rattle.life_advance.specs.Later.{IsLater}
use Rattle.life_advance.proofs.Laters.{later_same, later_still, trails_on}
use Rattle.life_advance.proofs.advancing.turn.Goals as goal

pub returns-then-landing-until-clause-cells : goal.returns-then-landing-until-clause-cells
returns-then-landing-until-clause-cells c =
    subst (λ n. IsLater c.args.rule.now c.args.board.now (c.in-Some.landing.cells, n)) c.if-landing-until.true
    (later_still _ _ _ _ c.in_ok-walk.ensures.later c.in-Some.ensures.later)

pub returns-clause-later : goal.returns-clause-later
returns-clause-later c =
    later_same _ _ (c.in-Some.landing.cells, c.in-Some.landing.age) _
    (later_still _ _ _ _ c.in_ok-walk.ensures.later c.in-Some.ensures.later) c.in_ok-board.ensures.cells c.in_ok-board.ensures.age

pub leapt-requires-clause-kept : goal.leapt-requires-clause-kept
leapt-requires-clause-kept c = trails_on _ _ _ _ c.requires.kept c.in_ok-walk.ensures.later
