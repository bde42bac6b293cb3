use Rattle.std.proofs.Common.{arith}
use Rattle.life_ash.proofs.Totals.{largest_by_period}
use Rattle.life_ash.proofs.sizes.largest.Goals as goal

pub returns : goal.returns
returns c =
    let ended = c.loop-phase-test.false in
    let period = c.period-phase-end.ensures.value in
    largest_by_period c.args.orbit.now c.period-phase-end.ensures.recurs c.loop-phase.most
    (λ k h. c.loop-phase.invariant k (omega arith))
