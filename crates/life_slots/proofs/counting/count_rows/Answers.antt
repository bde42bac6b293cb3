use Rattle.std.proofs.Common.{arith}
use Rattle.life_slots.proofs.Counted.{counted_from_none, counted_from}
use Rattle.life_slots.proofs.counting.count_rows.Goals as goal

pub loop-y-init : goal.loop-y-init
loop-y-init c = record { few = omega arith; counted = counted_from_none c.args.tile.now.rows c.args.top }

pub loop-y-preserved : goal.loop-y-preserved
loop-y-preserved c = record {
  few = omega arith;
  counted = counted_from c.args.tile.now.rows c.args.top c.loop-y.y c.loop-y.count c.count_row-count.result c.count_row-count.ensures.cells c.loop-y.invariant.counted;
}
