use Rattle.std.proofs.Common.{sym, ap, ◌+◌, ◌∙◌}
use Rattle.life_advance.proofs.Laters.{later_next, later_now}
use Rattle.life_advance.proofs.walking.walk.Goals as goal

pub loop-age-init : goal.loop-age-init
loop-age-init c = (sym c.age-age.ensures.age, later_now _ _)

pub returns-then-is_trial_due-clause-later : goal.returns-then-is_trial_due-clause-later
returns-then-is_trial_due-clause-later c = later_next _ _ _ _ c.loop-age.invariant.1 c.in_ok-step.ensures.age c.in_ok-step.ensures.cells

pub loop-age-preserved : goal.loop-age-preserved
loop-age-preserved c = (
  c.in_ok-step.ensures.age ∙ ap (λ n. n + 1) c.loop-age.invariant.0,
  later_next _ _ _ _ c.loop-age.invariant.1 c.in_ok-step.ensures.age c.in_ok-step.ensures.cells,
)
