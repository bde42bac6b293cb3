use Rattle.std.proofs.Common.{◌≡◌, ◌+◌, ◌*◌, ◌/◌, ap, refl, sym, subst, ◌∙◌, arith}
use Rattle.std.specs.Bool.{OnTrue}
use Rattle.std.specs.List.{All}
use Rattle.std.proofs.lemmas.List.Elements.{All-contains}
use Rattle.life_model.specs.Evolution.{generation, next}
use Rattle.life_model.proofs.Recurrences.{generation-next}
use Rattle.life_strays.specs.Strays.{IsTrail}
use Rattle.life_strays.proofs.Trails.{SomeTell}
use Rattle.life_strays.proofs.trailing.later_told.Goals as goal

pub loop-n-init : goal.loop-n-init
loop-n-init g c =
    let R = c.args.rule.now in
    let b = c.args.bound in
    let G = g.P.Plane.members c.args.start.now in
    record {
      members = c.requires.cells;
      aged = refl;
      trails = c.in_ok-trails.ensures R (b / 2) (2 * b) b G (omega arith) c.requires.trails;
    }

pub loop-n-preserved : goal.loop-n-preserved
loop-n-preserved g c =
    let R = c.args.rule.now in
    let G = g.P.Plane.members c.args.start.now in
    let at = c.loop-n.invariant in
    let members : g.P.Plane.members c.step.new.self ≡ generation R G (c.loop-n.n + 1) =
    c.in_ok-step.ensures.cells ∙ ap (next R) at.members ∙ sym (generation-next R G c.loop-n.n) in
    record {
      members = members;
      aged = omega (arith, c.in_ok-step.ensures.age, at.aged);
      trails = c.in_ok-trails-2.ensures R c.loop-n.n refl members at.trails;
    }

pub returns : goal.returns
returns g c =
    let R = c.args.rule.now in
    let b = c.args.bound in
    let G = g.P.Plane.members c.args.start.now in
    let items = c.loop-n.trails.items in
    let last : c.loop-n.n ≡ 3 * b = omega arith in
    let are : All (IsTrail R (2 * b) (3 * b) G) items =
    subst (λ k. All (IsTrail R (2 * b) k G) items) last c.loop-n.invariant.trails in
    let seen : SomeTell items =
    subst SomeTell c.as_slice-2.ensures.value
    (subst (λ t. OnTrue t (SomeTell c.as_slice-2.result.now)) c.if-not-some_tell-2.false c.some_tell-2.ensures) in
    (seen.0, seen.2, All-contains (IsTrail R (2 * b) (3 * b) G) items seen.0 are seen.1)
