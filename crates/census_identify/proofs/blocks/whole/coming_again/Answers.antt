use Rattle.std.proofs.Common.{◌≡◌, ◌+◌, sym, ap, subst, ◌∙◌, arith, add-zero, add_assoc}
use Rattle.life_model.specs.Evolution.{generation, next}
use Rattle.life_model.proofs.Recurrences.{generation-next, generation-zero}
use Rattle.life_plane.specs.Offsets.{AreNotTranslates, IsOffset}
use Rattle.census_identify.proofs.BlocksLemmas.Returning.{away_at_first, comes_again, still_away}
use Rattle.census_identify.proofs.blocks.whole.coming_again.Goals as goal

pub loop-steps-init : goal.loop-steps-init
loop-steps-init g c = record {
  there = sym (generation-zero _ _);
  aged = sym (add-zero _);
  away = away_at_first _ _;
}

pub returns-in-Some : goal.returns-in-Some
returns-in-Some g c =
    let R = c.args.rule.now in
    let G = g.P.Plane.members c.args.plane.now in
    let n = c.loop-steps.steps in
    let d = c.in-Some.displacement in
    let there : g.P.Plane.members c.step.new.self ≡ generation R G (n + 1) =
    c.in_ok-step.ensures.cells ∙ ap (next R) c.loop-steps.invariant.there ∙ sym (generation-next R G n) in
    let offset = rw c.in-Some.is at c.in_ok-displacement.ensures.offset in
    comes_again R G n c.loop-steps.invariant.away _ _ (omega arith) (omega arith)
    (subst (λ H. IsOffset G H d) there (subst (λ F. IsOffset F (g.P.Plane.members c.step.new.self) d) c.in_ok-cells.ensures.cells offset))

pub loop-steps-preserved : goal.loop-steps-preserved
loop-steps-preserved g c =
    let R = c.args.rule.now in
    let G = g.P.Plane.members c.args.plane.now in
    let n = c.loop-steps.steps in
    let there : g.P.Plane.members c.step.new.self ≡ generation R G (n + 1) =
    c.in_ok-step.ensures.cells ∙ ap (next R) c.loop-steps.invariant.there ∙ sym (generation-next R G n) in
    let missed = rw c.in_default.is at c.in_ok-displacement.ensures.apart in
    record {
      there = there;
      aged = c.in_ok-step.ensures.age ∙ ap (λ k. k + 1) c.loop-steps.invariant.aged ∙ add_assoc _ _ _;
      away = still_away R G n c.loop-steps.invariant.away
          (subst (λ H. AreNotTranslates G H) there (subst (λ F. AreNotTranslates F (g.P.Plane.members c.step.new.self)) c.in_ok-cells.ensures.cells missed));
    }
