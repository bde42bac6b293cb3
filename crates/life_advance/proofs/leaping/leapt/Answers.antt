-- A plane that has come further than the board, or not as far.
use Rattle.std.proofs.Common.{◌∙◌, sym, subst, arith}
use Rattle.life_advance.specs.Later.{IsLater}
use Rattle.life_advance.proofs.Laters.{later_now, overtaken, trails_still}
use Rattle.life_advance.proofs.leaping.leapt.Goals as goal

pub returns-then-age-clause-kept : goal.returns-then-age-clause-kept
returns-then-age-clause-kept c =
    trails_still c.args.rule.now c.in_ok-plane.plane c.leap_on.new.plane c.args.board.now c.in_ok-plane.ensures c.leap_on.ensures.rule c.leap_on.ensures.later
    (omega (arith, c.if-age.true, c.age-2.ensures.age, c.age-age.ensures.age))

pub returns-clause-landed : goal.returns-clause-landed
returns-clause-landed c =
    (c.leap_on.ensures.rule ∙ c.in_ok-plane.ensures.0, subst (λ a. IsLater c.args.rule.now c.leap_on.new.plane.0 a) (sym c.in_ok-landing.ensures.is) (later_now _ _))

pub returns-clause-later : goal.returns-clause-later
returns-clause-later c =
    subst (λ a. IsLater c.args.rule.now c.args.board.now a) (sym c.in_ok-landing.ensures.is)
    (overtaken c.args.rule.now c.in_ok-plane.plane c.leap_on.new.plane c.args.board.now c.in_ok-plane.ensures c.leap_on.ensures.later
    (omega (arith, c.if-age.false, c.age-2.ensures.age, c.age-age.ensures.age)))
