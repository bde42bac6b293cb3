use Rattle.std.proofs.Common.{◌-◌, ◌<◌, ◌≤◌, ◌^◌, ⊎_elim, slice_index, arith, rules}
use Rattle.std.proofs.lemmas.Bool.{cases_lt}
use Rattle.life_slots.proofs.EndBits.{last_found, void}
use Rattle.life_board.proofs.ends.last_in.Goals as goal

pub returns-then-row-ne0 : goal.returns-then-row-ne0
returns-then-row-ne0 c =
    let fits : slice_index c.args.tile.now.rows (c.loop-y.y - 1) < 2 ^ 64 = search rules in
    let end = c.loop-y.invariant.inside in
    let some = c.loop-y-test.true in
    last_found c.args.tile.now (c.loop-y.y - 1) (omega arith) fits (omega arith) (λ q past high. c.loop-y.invariant.below q (omega arith) high)

pub returns : goal.returns
returns c =
    void c.args.tile.now
    (λ q high.
    ⊎_elim (λ (before : q < c.args.first). c.loop-y.invariant.above q before)
    (λ (past : c.args.first ≤ q). let over : c.loop-y.y ≤ c.args.first = c.loop-y-test.false in c.loop-y.invariant.below q (omega arith) high)
    (cases_lt q c.args.first))
