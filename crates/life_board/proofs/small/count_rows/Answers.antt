use Rattle.std.proofs.Common.{◌≤◌, arith}
use Rattle.life_board.proofs.Counts.{counted_end, counted_more, counted_start}
use Rattle.life_board.proofs.small.count_rows.Goals as goal

pub loop-y-init : goal.loop-y-init
loop-y-init c = record { inside = c.requires.order; few = omega arith; counted = counted_start c.args.tile.now.rows c.args.first c.requires.above }

pub loop-y-preserved : goal.loop-y-preserved
loop-y-preserved c = record {
  inside = (let test = c.loop-y-test.true in omega arith);
  few = (let before = c.loop-y.invariant.few in let row = c.count_row-count.ensures.few in omega arith);
  counted = counted_more c.args.tile.now.rows c.loop-y.y c.loop-y.count c.count_row-count.result c.count_row-count.ensures.cells c.loop-y.invariant.counted;
}

pub returns : goal.returns
returns c =
    let over : c.args.end ≤ c.loop-y.y = c.loop-y-test.false in
    counted_end c.args.tile.now.rows c.loop-y.y c.loop-y.count (let inside = c.requires.inside in let small = c.loop-y.invariant.inside in omega arith)
    (λ k past high. c.requires.below k (omega arith) high) c.loop-y.invariant.counted
