use Rattle.std.proofs.Common.{sym, ◌∙◌, arith}
use Rattle.life_answer.proofs.TaleOrders.{ends, goes_on}
use Rattle.life_answer.proofs.tale.parts_order.Goals as goal

pub returns-then-n-others : goal.returns-then-n-others
returns-then-n-others c =
    let parts = c.args.parts.now in
    let others = c.args.others.now in
    let n = c.loop-n.n in
    let below = c.loop-n-test.true in
    let last = c.if-n-others.true in
    sym (c.loop-n.invariant.0 ∙ goes_on parts others n below (omega arith))

pub returns-then-parts-others : goal.returns-then-parts-others
returns-then-parts-others c =
    let parts = c.args.parts.now in
    let others = c.args.others.now in
    let n = c.loop-n.n in
    let end = c.loop-n-test.false in
    let most = c.loop-n.auto.n-end in
    let fewer = c.if-parts-others.true in
    sym (c.loop-n.invariant.0 ∙ ends parts others n (omega arith) (omega arith))
