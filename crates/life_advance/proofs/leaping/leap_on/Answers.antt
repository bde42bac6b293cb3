use Rattle.std.proofs.Common.{◌∙◌, refl, subst}
use Rattle.life_advance.specs.Later.{IsLater}
use Rattle.life_advance.proofs.Laters.{later_now, later_still}
use Rattle.life_advance.proofs.leaping.leap_on.Goals as goal

pub leaps-init : goal.leaps-init
leaps-init c = (c.requires.young, refl, later_now _ _)

pub leaps-preserved : goal.leaps-preserved
leaps-preserved c =
    let made = c.leap_once.ensures in
    let before = c.leaps.invariant in (
      made.within,
      made.rule ∙ before.1,
      later_still _ _ _ _ before.2 (subst (λ R. IsLater R c.leaps.plane.0 c.leap_once.new.plane.0) before.1 made.later),
    )

pub returns-then-not-leap_once-clause-later : goal.returns-then-not-leap_once-clause-later
returns-then-not-leap_once-clause-later c =
    let before = c.leaps.invariant in
    later_still _ _ _ _ before.2 (subst (λ R. IsLater R c.leaps.plane.0 c.leap_once.new.plane.0) before.1 c.leap_once.ensures.later)
