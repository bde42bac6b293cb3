use Rattle.std.proofs.Common.{◌≡◌, ◌+◌, ◌<◌, ◌≤◌, ◌∙◌, Some, sym, ap, subst, arith}
use Rattle.life_model.specs.Evolution.{generation, next}
use Rattle.life_model.specs.Generation.{size}
use Rattle.life_model.proofs.Recurrences.{generation-zero, generation-next}
use Rattle.life_answer.specs.Limited.{first_larger}
use Rattle.life_find.proofs.FirstLarger.{BeginsAt, begins, larger_here, larger_later, larger_nowhere}
use Rattle.life_find.proofs.larger.first_larger.Goals as goal

pub loop-n-init : goal.loop-n-init
loop-n-init g c = record {
  cells = c.in_ok-plane.ensures.cells ∙ sym (generation-zero _ _);
  age = c.in_ok-plane.ensures.age;
  begun = begins _ _ _ _;
}

pub returns-then-population-from : goal.returns-then-population-from
returns-then-population-from g c =
    let R = c.args.rule.now in
    let G = c.args.cells.now in
    let n = c.loop-n.n in
    let counted : c.population.result ≡ size (generation R G n) = c.population.ensures ∙ ap size c.loop-n.invariant.cells in
    let limit = c.from.ensures in
    let greater = c.if-population-from.true in
    let more : c.args.most < size (generation R G n) = omega arith in
    larger_here R G c.args.most c.args.last n c.loop-n.invariant.begun more

pub step-requires : goal.step-requires
step-requires g c =
    let age = c.loop-n.invariant.age in
    let before = c.loop-n-test.true in
    let last = c.requires.last in
    omega arith

pub loop-n-preserved : goal.loop-n-preserved
loop-n-preserved g c =
    let R = c.args.rule.now in
    let G = c.args.cells.now in
    let n = c.loop-n.n in
    let counted : c.population.result ≡ size (generation R G n) = c.population.ensures ∙ ap size c.loop-n.invariant.cells in
    let limit = c.from.ensures in
    let not_greater = c.if-population-from.false in
    let few : size (generation R G n) ≤ c.args.most = omega arith in
    record {
      cells = c.in_ok-step.ensures.cells ∙ ap (next R) c.loop-n.invariant.cells ∙ sym (generation-next _ _ n);
      age = c.in_ok-step.ensures.age ∙ ap (λ k. k + 1) c.loop-n.invariant.age;
      begun = larger_later R G c.args.most c.args.last n c.loop-n-test.true c.loop-n.invariant.begun few;
    }

pub returns-then-population-from-2 : goal.returns-then-population-from-2
returns-then-population-from-2 g c =
    let R = c.args.rule.now in
    let G = c.args.cells.now in
    let last = c.args.last in
    let n = c.loop-n.n in
    let ended = c.loop-n-test.false in
    let reached = c.loop-n.auto.n-end in
    let same : n ≡ last = omega arith in
    let counted : c.population-2.result ≡ size (generation R G n) = c.population-2.ensures ∙ ap size c.loop-n.invariant.cells in
    let limit = c.from-2.ensures in
    let greater = c.if-population-from-2.true in
    let more : c.args.most < size (generation R G n) = omega arith in
    subst (λ m. Some m ≡ first_larger R G c.args.most last) same (larger_here R G c.args.most last n c.loop-n.invariant.begun more)

pub returns : goal.returns
returns g c =
    let R = c.args.rule.now in
    let G = c.args.cells.now in
    let last = c.args.last in
    let n = c.loop-n.n in
    let ended = c.loop-n-test.false in
    let reached = c.loop-n.auto.n-end in
    let same : n ≡ last = omega arith in
    let counted : c.population-2.result ≡ size (generation R G n) = c.population-2.ensures ∙ ap size c.loop-n.invariant.cells in
    let limit = c.from-2.ensures in
    let not_greater = c.if-population-from-2.false in
    let few : size (generation R G n) ≤ c.args.most = omega arith in
    larger_nowhere R G c.args.most last (subst (BeginsAt R G c.args.most last) same c.loop-n.invariant.begun)
    (subst (λ m. size (generation R G m) ≤ c.args.most) same few)
