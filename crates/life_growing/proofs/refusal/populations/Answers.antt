use Rattle.std.proofs.Common.{◌≡◌, ◌+◌, sym, ap, ◌∙◌, add-zero, add_assoc}
use Rattle.life_model.specs.Evolution.{generation, next}
use Rattle.life_model.proofs.Recurrences.{generation-next, generation-zero}
use Rattle.life_growing.proofs.Counted.{first_counted, one_more_counted}
use Rattle.life_growing.proofs.refusal.populations.Goals as goal

pub loop-init : goal.loop-init
loop-init g c =
    let R = c.args.rule.now in
    let G = c.args.cells.now in
    record {
      members = c.in_ok-plane.ensures.cells ∙ sym (generation-zero R G);
      aged = c.in_ok-plane.ensures.age ∙ sym (add-zero _);
      counted =
          first_counted R G c.new-counts.result.items c.push.new.self.items c.population.result
          (g.P.Plane.members c.in_ok-plane.plane) c.new-counts.ensures.items c.in_ok-push.ensures.items
          c.population.ensures c.in_ok-plane.ensures.cells;
    }

pub loop-preserved : goal.loop-preserved
loop-preserved g c =
    let R = c.args.rule.now in
    let G = c.args.cells.now in
    let n = c.loop.counter in
    let at = c.loop.invariant in
    let members : g.P.Plane.members c.step.new.self ≡ generation R G (n + 1) =
    c.in_ok-step.ensures.cells ∙ ap (next R) at.members ∙ sym (generation-next R G n) in
    record {
      members = members;
      aged = c.in_ok-step.ensures.age ∙ ap (λ k. k + 1) at.aged ∙ add_assoc _ _ _;
      counted =
          one_more_counted R G (n + 1) c.loop.counts.items c.push-in-loop.new.self.items c.population-in-loop.result
          (g.P.Plane.members c.step.new.self) c.in_ok-push-2.ensures.items c.population-in-loop.ensures members at.counted;
    }
