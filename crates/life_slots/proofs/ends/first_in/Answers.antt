use Rattle.std.proofs.Common.{◌<◌, ◌^◌, slice_index, arith, rules}
use Rattle.life_slots.proofs.EndBits.{first_found}
use Rattle.life_slots.proofs.ends.first_in.Goals as goal

pub returns-then-row-ne0 : goal.returns-then-row-ne0
returns-then-row-ne0 c =
    let fits : slice_index c.args.tile.now.rows c.loop-y.y < 2 ^ 64 = search rules in
    first_found c.args.tile.now c.loop-y.y c.loop-y-test.true fits (omega arith) c.loop-y.invariant
