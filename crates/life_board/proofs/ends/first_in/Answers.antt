use Rattle.std.proofs.Common.{◌<◌, ◌≤◌, ◌^◌, ⊎_elim, slice_index, arith, rules}
use Rattle.std.proofs.lemmas.Bool.{cases_lt}
use Rattle.life_slots.proofs.EndBits.{first_found, void}
use Rattle.life_board.proofs.ends.first_in.Goals as goal

pub returns-then-row-ne0 : goal.returns-then-row-ne0
returns-then-row-ne0 c =
    let fits : slice_index c.args.tile.now.rows c.loop-y.y < 2 ^ 64 = search rules in
    let end = c.requires.inside in
    first_found c.args.tile.now c.loop-y.y (omega arith) fits (omega arith) c.loop-y.invariant

pub returns : goal.returns
returns c =
    void c.args.tile.now
    (λ q high.
    ⊎_elim (λ (before : q < c.loop-y.y). c.loop-y.invariant q before)
    (λ (past : c.loop-y.y ≤ q). let over : c.args.end ≤ c.loop-y.y = c.loop-y-test.false in c.requires.below q (omega arith) high)
    (cases_lt q c.loop-y.y))
