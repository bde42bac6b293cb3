use Rattle.std.proofs.Common.{◌≡◌, ◌≤◌, sym, ap, subst, ◌∙◌, arith}
use Rattle.life_model.specs.Evolution.{generation}
use Rattle.life_model.specs.Generation.{size}
use Rattle.life_model.proofs.Recurrences.{generation-zero}
use Rattle.life_answer.specs.Limited.{IsAllowed}
use Rattle.life_ash.proofs.Growing.{three_later}
use Rattle.life_ash.proofs.limit.few_for.Goals as goal

pub returns-then-population-from-2-clause-few : goal.returns-then-population-from-2-clause-few
returns-then-population-from-2-clause-few c R G counted n h =
    let most = three_later R G n h in
    let room = c.if-population-from-2.true in
    let same = c.from-2.ensures in
    subst (λ limit. IsAllowed limit (size (generation R G n))) (sym c.in-Some.is)
    (let few : size (generation R G n) ≤ c.in-Some.most = omega arith in few)

pub returns-clause-few : goal.returns-clause-few
returns-clause-few c R G counted n h =
    let most = three_later R G n (omega arith) in
    let room = c.if-population-from.false in
    let same = c.from.ensures in
    let first : n ≡ 0 = omega arith in
    let start : size (generation R G n) ≡ size G = ap (λ k. size (generation R G k)) first ∙ ap size (generation-zero R G) in
    subst (λ limit. IsAllowed limit (size (generation R G n))) (sym c.in-Some.is)
    (let few : size (generation R G n) ≤ c.in-Some.most = omega arith in few)
