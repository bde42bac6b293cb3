use Rattle.std.proofs.Common.{◌≡◌, None, Some, refl, sym, ap, subst, ◌∙◌, true≢false, arith}
use Rattle.life_model.specs.Evolution.{generation, next}
use Rattle.life_model.specs.Generation.{size}
use Rattle.life_model.proofs.Recurrences.{generation-zero, generation-next}
use Rattle.life_answer.specs.Limited.{IsAllowed, first_past}
use Rattle.life_ash.proofs.Limits.{allowed_next, none_before, past_here, past_nowhere}
use Rattle.life_ash.proofs.limit.first_past.Goals as goal

pub loop-n-init : goal.loop-n-init
loop-n-init g c = record {
  members = c.in_ok-later.ensures.cells ∙ sym (generation-zero _ _);
  aged = c.in_ok-later.ensures.age ∙ (let e = g.P.Plane.steps_made c.args.plane.now in omega arith);
  before = none_before _ _ c.args.limit;
}

pub returns-then-not-is_allowed : goal.returns-then-not-is_allowed
returns-then-not-is_allowed g c =
    let R = c.args.rule.now in
    let G = g.P.Plane.members c.args.plane.now in
    let n = c.loop-n.n in
    let counted : c.population.result ≡ size (generation R G n) = c.population.ensures ∙ ap size c.loop-n.invariant.members in
    let before = c.loop-n-test.true in
    sym (past_here R G c.args.limit c.args.last n (omega arith) c.loop-n.invariant.before
    (λ few. true≢false (sym (c.if-not-is_allowed.ensures.1 (subst (IsAllowed c.args.limit) (sym counted) few)))))

pub loop-n-preserved : goal.loop-n-preserved
loop-n-preserved g c =
    let R = c.args.rule.now in
    let G = g.P.Plane.members c.args.plane.now in
    let n = c.loop-n.n in
    let counted : c.population.result ≡ size (generation R G n) = c.population.ensures ∙ ap size c.loop-n.invariant.members in
    let made = c.in_ok-step.ensures.age in
    let aged = c.loop-n.invariant.aged in
    record {
      members = c.in_ok-step.ensures.cells ∙ ap (next R) c.loop-n.invariant.members ∙ sym (generation-next R G n);
      aged = omega arith;
      before = allowed_next R G c.args.limit n c.loop-n.invariant.before
          (subst (IsAllowed c.args.limit) counted (c.if-not-is_allowed.ensures.0 refl));
    }

pub returns-then-not-is_allowed-2 : goal.returns-then-not-is_allowed-2
returns-then-not-is_allowed-2 g c =
    let R = c.args.rule.now in
    let G = g.P.Plane.members c.args.plane.now in
    let n = c.loop-n.n in
    let ended = c.loop-n-test.false in
    let reached = c.loop-n.auto.n-end in
    let same : n ≡ c.args.last = omega arith in
    let counted : c.population-2.result ≡ size (generation R G n) = c.population-2.ensures ∙ ap size c.loop-n.invariant.members in
    subst (λ m. Some m ≡ first_past c.args.limit R G c.args.last) same
    (sym (past_here R G c.args.limit c.args.last n (omega arith) c.loop-n.invariant.before
    (λ few. true≢false (sym (c.if-not-is_allowed-2.ensures.1 (subst (IsAllowed c.args.limit) (sym counted) few))))))

pub returns : goal.returns
returns g c =
    let R = c.args.rule.now in
    let G = g.P.Plane.members c.args.plane.now in
    let n = c.loop-n.n in
    let ended = c.loop-n-test.false in
    let reached = c.loop-n.auto.n-end in
    let same : n ≡ c.args.last = omega arith in
    let counted : c.population-2.result ≡ size (generation R G n) = c.population-2.ensures ∙ ap size c.loop-n.invariant.members in
    let all = allowed_next R G c.args.limit n c.loop-n.invariant.before
    (subst (IsAllowed c.args.limit) counted (c.if-not-is_allowed-2.ensures.0 refl)) in
    subst (λ m. None ≡ first_past c.args.limit R G m) same (sym (past_nowhere R G c.args.limit n all))
