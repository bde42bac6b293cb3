use Rattle.std.proofs.Common.{◌≡◌, ◌+◌, ◌<◌, ◌≤◌, ℕ, sym, ap, subst, ◌∙◌, arith}
use Rattle.life_model.specs.Evolution.{generation, next}
use Rattle.life_model.specs.Generation.{Generation, size}
use Rattle.life_model.proofs.Recurrences.{generation-next}
use Rattle.life_answer.specs.Limited.{IsAllowed}
use Rattle.life_ash.specs.Ahead.{IfNothing, IsFound}
use Rattle.life_ash.specs.Allowed.{AreAllowedBefore}
use Rattle.life_ash.specs.Met.{Terms}
use Rattle.life_ash.proofs.Finding.{of_some}
use Rattle.life_ash.proofs.Limits.{past_here}
use Rattle.life_ash.proofs.Ways.{ended_anyway}
use Rattle.life_ash.proofs.ahead.walk_on.Goals as goal

pub returns-in_default-clause-found : goal.returns-in_default-clause-found
returns-in_default-clause-found g c G start allowed =
    let R = c.args.met.now.rule in
    let age = c.loop-age.age in
    let counted = ap size (c.loop-age.invariant.members G start) in
    let more = c.loop-age-test.true in
    let end = c.requires.end.0 in
    past_here R G c.args.limit c.args.last age (omega arith) (c.loop-age.invariant.before G start allowed)
    (λ few. c.in_default.ensures.none (subst (IsAllowed c.args.limit) (sym counted) few))

pub returns-in-Some-2-clause-found : goal.returns-in-Some-2-clause-found
returns-in-Some-2-clause-found g c G start allowed =
    let t = c.loop-age.met in
    let age = c.loop-age.age in
    let limit = c.args.limit in
    let from = g.P.Plane.steps_made c.args.plane.now in
    let at = c.loop-age.invariant in
    let found = of_some (λ f. (K : Generation) (first end : ℕ) →
    g.P.Plane.members c.loop-age.plane ≡ generation t.rule K age → AreAllowedBefore t.rule K limit age →
    first ≤ age → age < end → IsFound t.rule t.bound K limit first end c.args.last f) c.in-Some-2.is
    c.in_ok-found.ensures.found in
    subst (λ (u : Terms). IsFound u.rule u.bound G limit from c.args.end c.args.last c.in-Some-2.found) at.same
    (found G from c.args.end (subst (λ (u : Terms). g.P.Plane.members c.loop-age.plane ≡ generation u.rule G age) (sym at.same) (at.members G start))
    (subst (λ (u : Terms). AreAllowedBefore u.rule G limit age) (sym at.same) (at.before G start allowed)) at.later
    c.loop-age-test.true)

pub returns-in-Some-2-clause-ended : goal.returns-in-Some-2-clause-ended
returns-in-Some-2-clause-ended g c =
    ended_anyway c.in-Some-2.found c.args.end (g.P.Plane.steps_made c.loop-age.plane)
    (of_some (λ found. IfNothing found ⊥) c.in-Some-2.is c.in_ok-found.ensures.some)

pub loop-age-preserved : goal.loop-age-preserved
loop-age-preserved g c =
    let R = c.args.met.now.rule in
    let age = c.loop-age.age in
    let more = c.in-Some.ensures.later in
    let from = c.loop-age.invariant.later in
    record {
      aged = c.in_ok-step.ensures.age ∙ ap (λ k. k + 1) c.loop-age.invariant.aged;
      later = omega arith;
      same = c.in_ok-found.ensures.same ∙ c.loop-age.invariant.same;
      members = λ G start. c.in_ok-step.ensures.cells
          ∙ (λ i. next (c.rule-rule.ensures i) (c.loop-age.invariant.members G start i)) ∙ sym (generation-next R G age);
      trail = λ G start kept. c.note.ensures R G
          (c.loop-age.invariant.members G start ∙ ap (generation R G) (sym c.loop-age.invariant.aged))
          (c.loop-age.invariant.trail G start kept);
      before = λ G start allowed m h. c.in-Some.ensures.few R G (c.loop-age.invariant.members G start)
          (c.loop-age.invariant.before G start allowed) (c.loop-age.invariant.known G start allowed) m (omega arith);
      known = λ G start allowed. c.in-Some.ensures.few R G (c.loop-age.invariant.members G start)
          (c.loop-age.invariant.before G start allowed) (c.loop-age.invariant.known G start allowed);
    }
