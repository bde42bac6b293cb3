use Rattle.std.proofs.Common.{◌+◌, sym, ap, ◌∙◌}
use Rattle.life_model.specs.Evolution.{next}
use Rattle.life_model.proofs.Recurrences.{generation-next, generation-zero}
use Rattle.life_census.proofs.growing.plane_at.Goals as goal

pub steps-init : goal.steps-init
steps-init g c = record { cells = c.in_ok-plane.ensures.cells ∙ sym (generation-zero _ _); age = c.in_ok-plane.ensures.age }

pub steps-preserved : goal.steps-preserved
steps-preserved g c = record {
  cells = c.in_ok-step.ensures.cells ∙ ap (next c.args.rule.now) c.steps.invariant.cells ∙ sym (generation-next _ _ c.steps.counter);
  age = c.in_ok-step.ensures.age ∙ ap (λ k. k + 1) c.steps.invariant.age;
}
