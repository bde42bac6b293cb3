use Rattle.std.proofs.Common.{refl}
use Rattle.census_merge.proofs.Counting.{flags-marked, flags-start}
use Rattle.census_merge.proofs.numbering.closed_by.Goals as goal

pub loop-row-init : goal.loop-row-init
loop-row-init c = flags-start c.args.count _ c.in_ok-flags.flags.items c.requires (c.in_ok-flags.ensures.items_if_clones_equal (λ y h. h)) refl

pub loop-row-preserved : goal.loop-row-preserved
loop-row-preserved c = rw c.mark.ensures (flags-marked c.args.rows.now c.loop-row.row-index _ c.loop-row.flags.items c.loop-row-test.true c.loop-row.invariant)
