use Rattle.std.proofs.Common.{◌∙◌, ◌+◌, sym, ap, add-zero, add_assoc}
use Rattle.life_model.specs.Evolution.{next}
use Rattle.life_model.proofs.Recurrences.{generation-zero, generation-next}
use Rattle.census_identify.proofs.blocks.whole.advance.Goals as goal

pub loop-init : goal.loop-init
loop-init g c = record {
  cells = sym (generation-zero _ _);
  age = sym (add-zero _);
}

pub loop-preserved : goal.loop-preserved
loop-preserved g c = record {
  cells = c.in_ok-step.ensures.cells ∙ ap (next c.args.rule.now) c.loop.invariant.cells ∙ sym (generation-next _ _ c.loop.counter);
  age = c.in_ok-step.ensures.age ∙ ap (λ n. n + 1) c.loop.invariant.age ∙ add_assoc _ _ _;
}
