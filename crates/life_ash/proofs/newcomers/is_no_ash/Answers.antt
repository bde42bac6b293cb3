use Rattle.std.proofs.Common.{◌+◌, sym, ap, subst, ◌∙◌, add-zero, add_assoc}
use Rattle.std.specs.List.{All}
use Rattle.life_model.specs.Evolution.{next}
use Rattle.life_model.proofs.Recurrences.{generation-zero, generation-next}
use Rattle.life_ash.specs.Met.{Terms}
use Rattle.life_ash.specs.Newcomers.{IsWholeIn}
use Rattle.life_ash.proofs.newcomers.is_no_ash.Goals as goal

pub loop-init : goal.loop-init
loop-init g c = record {
  members = c.in_ok-later.ensures.cells ∙ sym (generation-zero c.args.known.now.rule (g.P.Plane.members c.args.plane.now));
  aged = c.in_ok-later.ensures.age ∙ sym (add-zero _);
}

pub loop-preserved : goal.loop-preserved
loop-preserved g c =
    let R = c.args.known.now.rule in
    let G = g.P.Plane.members c.args.plane.now in
    let at = c.loop.invariant in
    record {
      members = c.in_ok-step.ensures.cells ∙ (λ i. next (c.rule-rule.ensures i) (at.members i))
          ∙ sym (generation-next R G c.loop.counter);
      aged = c.in_ok-step.ensures.age ∙ ap (λ k. k + 1) at.aged ∙ add_assoc _ _ _;
    }

pub some_tells-requires-clause-whole : goal.some_tells-requires-clause-whole
some_tells-requires-clause-whole g c =
    let H = g.P.Plane.members c.loop.later in
    subst (λ (t : Terms). All (IsWholeIn t.rule t.bound H) c.in_ok-sets.sets.items) (sym c.newcomers.ensures.same)
    c.in_ok-sets.ensures.whole
