use Rattle.std.proofs.Common.{arith}
use Rattle.std.proofs.lemmas.Int.{ints}
use Rattle.life_orbit.proofs.HullLemmas.{before_left, before_top, past_bottom, past_right}
use Rattle.life_orbit.proofs.hull.are_far.Goals as goal

pub returns-then-is_past : goal.returns-then-is_past
returns-then-is_past c =
    let gap = c.if-is_past.ensures in past_right c.args.hull c.args.other c.args.by (omega (arith, ints))

pub returns-then-is_before : goal.returns-then-is_before
returns-then-is_before c =
    let gap = c.if-is_before.ensures in before_left c.args.hull c.args.other c.args.by (omega (arith, ints))

pub returns-then-is_past-2 : goal.returns-then-is_past-2
returns-then-is_past-2 c =
    let gap = c.if-is_past-2.ensures in past_bottom c.args.hull c.args.other c.args.by (omega (arith, ints))

pub returns-then-is_before-2 : goal.returns-then-is_before-2
returns-then-is_before-2 c =
    let gap = c.if-is_before-2.ensures in before_top c.args.hull c.args.other c.args.by (omega (arith, ints))
