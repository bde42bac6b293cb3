use Rattle.std.proofs.Common.{◌≡◌, ◌+◌, sym, ap, subst, ◌∙◌, arith}
use Rattle.std.specs.List.{All}
use Rattle.std.proofs.lemmas.List.Elements.{All-nil}
use Rattle.life_model.specs.Evolution.{generation, next}
use Rattle.life_model.proofs.Recurrences.{generation-next, generation-zero}
use Rattle.life_objects.specs.Ash.{IsAsh}
use Rattle.life_apart.specs.Onsets.Moments.{IsMomentOf}
use Rattle.life_apart.specs.Onsets.Pasts.{sets_of}
use Rattle.tests_objects.proofs.onsets.onset_by.Goals as goal

pub loop-init : goal.loop-init
loop-init g c =
    let R = c.life-rule.result in
    let G = c.args.cells.now in
    record {
      members = c.in_ok-plane.ensures.cells ∙ sym (generation-zero R G);
      aged = c.in_ok-plane.ensures.age;
      kept = subst (All (IsMomentOf R G)) (sym c.new-trail.ensures) (All-nil (IsMomentOf R G));
    }

pub loop-preserved : goal.loop-preserved
loop-preserved g c = record {
  members = c.in_ok-step.ensures.cells ∙ ap (next c.life-rule.result) c.loop.invariant.members
      ∙ sym (generation-next c.life-rule.result c.args.cells.now c.loop.counter);
  aged = c.in_ok-step.ensures.age ∙ ap (λ n. n + 1) c.loop.invariant.aged;
  kept = c.note.ensures c.life-rule.result c.args.cells.now
      (c.loop.invariant.members ∙ ap (generation c.life-rule.result c.args.cells.now) (sym c.loop.invariant.aged))
      c.loop.invariant.kept;
}

pub onset-requires-clause-ash : goal.onset-requires-clause-ash
onset-requires-clause-ash g c =
    let R = c.life-rule.result in
    let G = c.args.cells.now in
    let b = c.new-known.result.bound in
    let ended = c.loop-test.false in
    let most = c.loop.auto.counter-end in
    let last : c.loop.counter ≡ c.args.age = omega arith in (
      b,
      subst (λ os. IsAsh R b (generation R G c.args.age) (sets_of os)) (sym c.deref.ensures.value)
          (subst (λ n. IsAsh R b (generation R G n) (sets_of c.in-Some.parts.items)) last
          (subst (λ H. IsAsh R b H (sets_of c.in-Some.parts.items)) c.loop.invariant.members
          (subst (λ S. IsAsh S b (g.P.Plane.members c.loop.plane) (sets_of c.in-Some.parts.items)) c.new-known.ensures.rule
          (rw c.in-Some.is at c.in_ok-parts.ensures.ash)))),
    )
