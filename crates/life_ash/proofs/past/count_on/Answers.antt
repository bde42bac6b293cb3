use Rattle.std.proofs.Common.{◌≡◌, ◌+◌, ◌-◌, ◌<◌, ◌≤◌, ℕ, sym, ap, subst, ◌∙◌, true≢false, arith}
use Rattle.life_model.specs.Evolution.{generation, next}
use Rattle.life_model.specs.Generation.{Generation, size}
use Rattle.life_model.proofs.Recurrences.{generation-next}
use Rattle.life_answer.specs.Limited.{IsAllowed}
use Rattle.life_ash.specs.Ahead.{IfNothing, IsFound}
use Rattle.life_ash.specs.Allowed.{AreAllowedBefore}
use Rattle.life_ash.specs.Counted.{IsCounted}
use Rattle.life_ash.specs.Met.{Terms}
use Rattle.life_ash.proofs.Counting.{past_more}
use Rattle.life_ash.proofs.Finding.{of_some}
use Rattle.life_ash.proofs.Limits.{allowed_next, past_here}
use Rattle.life_ash.proofs.Ways.{unless_nothing}
use Rattle.life_ash.proofs.past.count_on.Goals as goal

pub returns-then-not-is_allowed-clause-found : goal.returns-then-not-is_allowed-clause-found
returns-then-not-is_allowed-clause-found g c G start allowed =
    let R = c.args.met.now.rule in
    let age = c.loop-age.age in
    let counted = c.population-population.ensures ∙ ap size (c.loop-age.invariant.members G start) in
    let more = c.loop-age-test.true in
    let end = c.requires.end.0 in
    past_here R G c.args.limit c.args.last age (omega arith) (c.loop-age.invariant.before G start allowed)
    (λ few. true≢false (sym (c.is_allowed.ensures.1 (subst (IsAllowed c.args.limit) (sym counted) few)) ∙ c.if-not-is_allowed.true))

pub returns-in-Some-clause-age : goal.returns-in-Some-clause-age
returns-in-Some-clause-age g c =
    unless_nothing c.in-Some.found _ (of_some (λ found. IfNothing found ⊥) c.in-Some.is c.in_ok-found.ensures.some)

pub returns-in-Some-clause-past : goal.returns-in-Some-clause-past
returns-in-Some-clause-past g c =
    unless_nothing c.in-Some.found _ (of_some (λ found. IfNothing found ⊥) c.in-Some.is c.in_ok-found.ensures.some)

pub returns-in-Some-clause-found : goal.returns-in-Some-clause-found
returns-in-Some-clause-found g c G start allowed =
    let t = c.loop-age.met in
    let age = c.loop-age.age in
    let limit = c.args.limit in
    let from = g.P.Plane.steps_made c.args.plane.now in
    let at = c.loop-age.invariant in
    let found = of_some (λ f. (K : Generation) (first end : ℕ) →
    g.P.Plane.members c.loop-age.plane ≡ generation t.rule K age → AreAllowedBefore t.rule K limit age →
    first ≤ age → age < end → IsFound t.rule t.bound K limit first end c.args.last f) c.in-Some.is
    c.in_ok-found.ensures.found in
    subst (λ (u : Terms). IsFound u.rule u.bound G limit from c.args.end c.args.last c.in-Some.found) at.same
    (found G from c.args.end (subst (λ (u : Terms). g.P.Plane.members c.loop-age.plane ≡ generation u.rule G age) (sym at.same) (at.members G start))
    (subst (λ (u : Terms). AreAllowedBefore u.rule G limit age) (sym at.same) (at.before G start allowed)) at.later
    c.loop-age-test.true)

pub loop-age-preserved : goal.loop-age-preserved
loop-age-preserved g c =
    let R = c.args.met.now.rule in
    let b = c.args.met.now.bound in
    let age = c.loop-age.age in
    let here = g.P.Plane.members c.loop-age.plane in
    let at = c.loop-age.invariant in
    let counted = c.population-population.ensures in
    let more = c.in_ok-add.ensures.total in
    let small = at.small in
    let later = at.later in
    let value = c.bound-bound.ensures.value in
    record {
      aged = c.in_ok-step.ensures.age ∙ ap (λ k. k + 1) at.aged;
      later = omega arith;
      same = c.in_ok-found.ensures.same ∙ at.same;
      small = omega arith;
      past = λ G is.
          let past = c.requires.past in
          past_more R b G age here _ c.loop-age.totals _ (omega arith) (at.past G is)
          (c.in_ok-step.ensures.cells ∙ ap (λ S. next S here) c.rule-rule.ensures)
          (λ sizes so_far.
          subst (λ k. IsCounted R k (generation R G b) (age - b + 1) c.add.new.self) value
          (c.in_ok-add.ensures.counted R (generation R G b) (age - b) (sizes ∙ sym counted)
          (subst (λ k. IsCounted R k (generation R G b) (age - b) c.loop-age.totals) (sym value) so_far)));
      members = λ G start. c.in_ok-step.ensures.cells ∙ (λ i. next (c.rule-rule.ensures i) (at.members G start i))
          ∙ sym (generation-next R G age);
      before = λ G start allowed. allowed_next R G c.args.limit age (at.before G start allowed)
          (subst (IsAllowed c.args.limit) (counted ∙ ap size (at.members G start)) (c.is_allowed.ensures.0 c.if-not-is_allowed.false));
    }
