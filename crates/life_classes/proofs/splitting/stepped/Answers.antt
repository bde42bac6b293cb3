use Rattle.std.proofs.Common.{◌+◌, sym, ap, ◌∙◌, add-zero, add_assoc}
use Rattle.life_model.specs.Evolution.{next}
use Rattle.life_model.proofs.Recurrences.{generation-zero, generation-next}
use Rattle.life_classes.proofs.splitting.stepped.Goals as goal

pub loop-init : goal.loop-init
loop-init g c = record { members = sym (generation-zero c.args.rule.now (g.P.Plane.members c.args.plane)); aged = sym (add-zero _) }

pub loop-preserved : goal.loop-preserved
loop-preserved g c =
    let R = c.args.rule.now in
    let at = c.loop.invariant in
    record {
      members =
          c.in_ok-step.ensures.cells ∙ ap (next R) at.members
          ∙ sym (generation-next R (g.P.Plane.members c.args.plane) c.loop.counter);
      aged = c.in_ok-step.ensures.age ∙ ap (λ k. k + 1) at.aged ∙ add_assoc _ _ _;
    }
