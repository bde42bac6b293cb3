use Rattle.std.proofs.Common.{◌≡◌, ◌+◌, refl, sym, ap, subst, ◌∙◌, add-zero, add_assoc, true≢false, arith}
use Rattle.life_model.specs.Evolution.{generation, next}
use Rattle.life_model.proofs.Recurrences.{generation-next, generation-zero}
use Rattle.life_objects.specs.Ash.{IsAsh}
use Rattle.life_apart.specs.Sets.{sets_of}
use Rattle.life_ash.proofs.Finding.{of_none, of_some}
use Rattle.life_growing.proofs.settling.walk.falls_apart.Goals as goal

pub loop-init : goal.loop-init
loop-init g c = record {
  members = c.in_ok-later.ensures.cells ∙ sym (generation-zero c.args.rule.now c.args.cells.now);
  aged = c.in_ok-later.ensures.age ∙ sym (add-zero _);
}

pub loop-preserved : goal.loop-preserved
loop-preserved g c =
    let R = c.args.rule.now in
    let at = c.loop.invariant in
    record {
      members = c.in_ok-step.ensures.cells ∙ ap (next R) at.members
          ∙ sym (generation-next R c.args.cells.now c.loop.counter);
      aged = c.in_ok-step.ensures.age ∙ ap (λ k. k + 1) at.aged ∙ add_assoc _ _ _;
    }

pub returns-in-Some : goal.returns-in-Some
returns-in-Some g c =
    let R = c.args.rule.now in
    let E = c.args.cells.now in
    let ended : c.loop.counter ≡ c.args.bound =
    let past = c.loop-test.false in let less = c.loop.auto.counter-end in omega arith in
    let ash = of_some (λ os. IsAsh R c.args.bound (g.P.Plane.members c.loop.later) (sets_of os)) c.in-Some.is
    c.in_ok-ash_of.ensures.some in (
      λ yes. (
        _,
        subst (λ H. IsAsh R c.args.bound H (sets_of c.in-Some.field-0))
            (c.loop.invariant.members ∙ ap (generation R E) ended) ash,
      ),
      λ falls. refl,
    )

pub returns : goal.returns
returns g c =
    let R = c.args.rule.now in
    let E = c.args.cells.now in
    let ended : c.loop.counter ≡ c.args.bound =
    let past = c.loop-test.false in let less = c.loop.auto.counter-end in omega arith in (
      λ no. absurd (true≢false (sym no)),
      λ falls. absurd (of_none c.in-None.is c.in_ok-ash_of.ensures.none falls.0
          (subst (λ H. IsAsh R c.args.bound H falls.0)
          (ap (generation R E) (sym ended) ∙ sym c.loop.invariant.members) falls.1)),
    )
