use Rattle.std.proofs.Common.{◌≡◌, ◌+◌, ◌/◌, ap, refl, sym, subst, ◌∙◌, add-zero, add_assoc, arith}
use Rattle.std.specs.List.{All}
use Rattle.life_model.specs.Evolution.{generation, next}
use Rattle.life_model.proofs.Recurrences.{generation-zero, generation-next}
use Rattle.life_strays.specs.Strays.{IsTrail}
use Rattle.life_strays.proofs.trailing.first_told.Goals as goal

pub loop-n-init : goal.loop-n-init
loop-n-init g c =
    let R = c.args.rule.now in
    let G = g.P.Plane.members c.args.start.now in
    record {
      members = c.requires.cells ∙ sym (generation-zero R G);
      aged = sym (add-zero _);
      trails = c.in_ok-trails.ensures R (c.args.bound / 2) G c.requires.islands;
    }

pub loop-n-preserved : goal.loop-n-preserved
loop-n-preserved g c =
    let R = c.args.rule.now in
    let G = g.P.Plane.members c.args.start.now in
    let at = c.loop-n.invariant in
    let members : g.P.Plane.members c.step.new.self ≡ generation R G (c.loop-n.n + 1) =
    c.in_ok-step.ensures.cells ∙ ap (next R) at.members ∙ sym (generation-next R G c.loop-n.n) in
    record {
      members = members;
      aged = c.in_ok-step.ensures.age ∙ ap (λ k. k + 1) at.aged ∙ add_assoc _ _ _;
      trails = c.in_ok-trails-2.ensures R c.loop-n.n refl members at.trails;
    }

pub returns-clause-trails : goal.returns-clause-trails
returns-clause-trails g c =
    let b = c.args.bound in
    let G = g.P.Plane.members c.args.start.now in
    let last : c.loop-n.n ≡ b = omega arith in
    subst (λ k. All (IsTrail c.args.rule.now (b / 2) k G) c.loop-n.trails.items) last c.loop-n.invariant.trails
