use Rattle.std.proofs.Common.{◌≤◌, ap, arith}
use Rattle.life_model.specs.Evolution.{generation}
use Rattle.life_model.specs.Generation.{size}
use Rattle.life_ash.proofs.Totals.{total_next}
use Rattle.life_ash.proofs.sizes.are_few.Goals as goal

pub loop-orbit-preserved : goal.loop-orbit-preserved
loop-orbit-preserved c =
    let taken = c.in-Some.ensures in
    let enough : c.largest.result ≤ c.loop-orbit.left = taken.0 in
    let left = taken.1 in
    let o = c.orbit-item.result in
    total_next c.args.most c.loop-orbit.left c.in-Some.rest c.args.orbits.now c.loop-orbit.orbit-index o
    c.loop-orbit-test.true c.loop-orbit.invariant
    (λ n.
    let few = c.largest.ensures n in
    let same = ap (λ p. size (generation p.rule p.set n)) c.orbit-item.is in
    omega arith)
