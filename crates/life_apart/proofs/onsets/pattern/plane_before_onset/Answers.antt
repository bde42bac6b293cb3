use Rattle.std.proofs.Common.{◌-◌, sym, ap, subst, ◌∙◌, arith}
use Rattle.std.proofs.lemmas.List.Elements.{All-same}
use Rattle.std.proofs.lemmas.Result.{IfOk-weaker}
use Rattle.life_model.specs.Evolution.{generation}
use Rattle.life_model.proofs.Recurrences.{generation-zero}
use Rattle.life_objects.specs.Union.{generations}
use Rattle.life_objects.proofs.Ashes.{IsAsh-until}
use Rattle.life_apart.specs.Onsets.Moments.{IsMomentOf}
use Rattle.life_apart.proofs.OnsetsLemmas.Onsets.{both_ok}
use Rattle.life_apart.proofs.onsets.pattern.plane_before_onset.Goals as goal

pub returns-in-Some-clause-none : goal.returns-in-Some-clause-none
returns-in-Some-clause-none g c R b rule since kept ash n early has =
    let G = c.args.cells.now in
    let last = g.P.Plane.steps_made c.in-Some.plane in
    let moment =
    subst (IsMomentOf R G) (sym c.kept-item.is)
    (All-same (IsMomentOf R G) _ _ c.kept-kept-items.ensures kept c.loop-kept.kept-index c.kept-item.result c.loop-kept-test.true) in
    let none = rw c.in-Some.is at c.in_ok-plane.ensures.none in
    none R b G rule since moment ash (generations R has.0 (last - n), IsAsh-until R b n last G has.0 (omega (arith, early)) has.1)

pub returns-in-Some-clause-start : goal.returns-in-Some-clause-start
returns-in-Some-clause-start g c R kept =
    let G = c.args.cells.now in
    let moment =
    subst (IsMomentOf R G) (sym c.kept-item.is)
    (All-same (IsMomentOf R G) _ _ c.kept-kept-items.ensures kept c.loop-kept.kept-index c.kept-item.result c.loop-kept-test.true) in
    let start = rw c.in-Some.is at c.in_ok-plane.ensures.start in
    start R G moment

pub returns-clause-start : goal.returns-clause-start
returns-clause-start g c =
    both_ok c.from_cells.result c.from_cells.ensures.cells c.from_cells.ensures.age
    (λ plane same age R kept. same ∙ sym (ap (generation R c.args.cells.now) age ∙ generation-zero R c.args.cells.now))

pub returns-clause-none : goal.returns-clause-none
returns-clause-none g c =
    IfOk-weaker c.from_cells.result _ _ (λ plane age R b rule since kept ash n early has. absurd (omega (arith, age, early)))
    c.from_cells.ensures.age
