use Rattle.std.proofs.Common.{◌+◌, sym, ap, ◌∙◌, arith}
use Rattle.life_model.specs.Evolution.{next}
use Rattle.life_model.proofs.Recurrences.{generation-next, generation-zero}
use Rattle.life_census.proofs.island.later_by.Goals as goal

pub steps-init : goal.steps-init
steps-init g c = record {
  cells = c.in_ok-later.ensures.cells ∙ sym (generation-zero _ _);
  age = let now = c.in_ok-later.ensures.age in omega arith;
}

pub steps-preserved : goal.steps-preserved
steps-preserved g c = record {
  cells = c.in_ok-step.ensures.cells ∙ ap (next c.args.rule.now) c.steps.invariant.cells ∙ sym (generation-next _ _ c.steps.counter);
  age = let more = c.in_ok-step.ensures.age in let so_far = c.steps.invariant.age in omega arith;
}
