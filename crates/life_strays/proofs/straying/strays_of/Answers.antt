use Rattle.std.proofs.Common.{◌≡◌, ◌+◌, ap, refl, sym, ◌∙◌, add-zero, add_assoc}
use Rattle.life_model.specs.Evolution.{generation, next}
use Rattle.life_model.proofs.Recurrences.{generation-zero, generation-next}
use Rattle.life_strays.proofs.straying.strays_of.Goals as goal

pub loop-n-init : goal.loop-n-init
loop-n-init g c = record {
  members = sym (generation-zero c.args.rule.now (g.P.Plane.members c.args.plane.now));
  aged = sym (add-zero _);
  strays = c.in_ok-strays.ensures c.args.rule.now c.args.bound (g.P.Plane.members c.args.plane.now) c.requires.islands;
}

pub loop-n-preserved : goal.loop-n-preserved
loop-n-preserved g c =
    let R = c.args.rule.now in
    let G = g.P.Plane.members c.args.plane.now in
    let at = c.loop-n.invariant in
    let members : g.P.Plane.members c.step.new.self ≡ generation R G (c.loop-n.n + 1) =
    c.in_ok-step.ensures.cells ∙ ap (next R) at.members ∙ sym (generation-next R G c.loop-n.n) in
    record {
      members = members;
      aged = c.in_ok-step.ensures.age ∙ ap (λ k. k + 1) at.aged ∙ add_assoc _ _ _;
      strays = c.in_ok-strays-2.ensures R c.loop-n.n G refl members at.strays;
    }
