use Rattle.std.proofs.Common.{◌-◌, ◌<◌, ◌^◌, slice_index, arith, rules}
use Rattle.life_slots.proofs.EndBits.{last_found}
use Rattle.life_slots.proofs.ends.last_in.Goals as goal

pub returns-then-row-ne0 : goal.returns-then-row-ne0
returns-then-row-ne0 c =
    let fits : slice_index c.args.tile.now.rows (c.loop-y.y - 1) < 2 ^ 64 = search rules in
    let inside : c.loop-y.y - 1 < 64 = (let h = c.loop-y.invariant.high in let k = c.loop-y-test.true in omega arith) in
    last_found c.args.tile.now (c.loop-y.y - 1) inside fits (omega arith) (λ q past below. c.loop-y.invariant.clear q (omega arith) below)
