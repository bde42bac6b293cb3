use Rattle.std.proofs.Common.{◌≡◌, ℕ, ◌<◌, ◌≤◌, ◌+◌, ◌-◌, ◌*◌, ◌/◌, ◌∙◌, sym, ap, subst, arith}
use Rattle.std.proofs.Math.Nat.{lt-mul-div-succ, mul-div-le}
use Rattle.life_model.specs.Evolution.{generation, next}
use Rattle.life_model.specs.Generation.{size}
use Rattle.life_model.proofs.Recurrences.{generation-next, generation-zero}
use Rattle.life_answer.specs.Growing.{allowed_bound}
use Rattle.life_census.proofs.SmallEnough.{AreFewBefore, allowed_all, allowed_anyway, allowed_until, few_so_far}
use Rattle.life_census.proofs.allowed.allowed_bound.Goals as goal

pub loop-n-init : goal.loop-n-init
loop-n-init g c = record {
  cells = c.in_ok-plane.ensures.cells ∙ sym (generation-zero _ _);
  age = c.in_ok-plane.ensures.age;
  few = λ m h. absurd (omega arith);
}

pub loop-n-preserved : goal.loop-n-preserved
loop-n-preserved g c =
    let R = c.args.rule.now in
    let G = c.args.cells.now in
    let n = c.loop-n.n in
    let counted : c.population.result ≡ size (generation R G n) = c.population.ensures ∙ ap size c.loop-n.invariant.cells in
    let limit = c.from.ensures in
    let not_greater = c.if-population-from.false in
    record {
      cells = c.in_ok-step.ensures.cells ∙ ap (next R) c.loop-n.invariant.cells ∙ sym (generation-next R G n);
      age = c.in_ok-step.ensures.age ∙ ap (λ k. k + 1) c.loop-n.invariant.age;
      few = few_so_far R G c.in-Some.most n c.loop-n.invariant.few (omega arith);
    }

pub returns-in_default : goal.returns-in_default
returns-in_default g c =
    sym (ap (λ limit. allowed_bound limit c.args.rule.now c.args.cells.now c.args.bound) c.in_default.is
    ∙ allowed_anyway c.args.rule.now c.args.cells.now c.args.bound c.requires.bound.0)

pub returns-then-population-from : goal.returns-then-population-from
returns-then-population-from g c =
    let R = c.args.rule.now in
    let G = c.args.cells.now in
    let b = c.args.bound in
    let n = c.loop-n.n in
    let less : ℕ = c.saturating_sub.result in
    let one_less : less ≡ n - 1 = c.saturating_sub.ensures in
    let counted : c.population.result ≡ size (generation R G n) = c.population.ensures ∙ ap size c.loop-n.invariant.cells in
    let limit = c.from.ensures in
    let greater = c.if-population-from.true in
    let inside = c.loop-n-test.true in
    let down : 4 * (less / 4) ≤ less = mul-div-le less 4 in
    let up : less < 4 * (less / 4 + 1) = lt-mul-div-succ less (omega arith) in
    sym (ap (λ limit. allowed_bound limit R G b) c.in-Some.is
    ∙ allowed_until R G c.in-Some.most b n (less / 4) (omega arith) (omega arith) c.loop-n.invariant.few (omega arith) (omega arith))

pub returns : goal.returns
returns g c =
    let R = c.args.rule.now in
    let G = c.args.cells.now in
    let b = c.args.bound in
    let n = c.loop-n.n in
    let ended = c.loop-n-test.false in
    let reached = c.loop-n.auto.n-end in
    let same : n ≡ 4 * b + 1 = omega arith in
    sym (ap (λ limit. allowed_bound limit R G b) c.in-Some.is
    ∙ allowed_all R G c.in-Some.most b c.requires.bound.0 (subst (AreFewBefore R G c.in-Some.most) same c.loop-n.invariant.few))
