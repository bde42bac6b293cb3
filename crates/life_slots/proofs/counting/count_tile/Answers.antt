use Rattle.std.proofs.Common.{◌∙◌, arith}
use Rattle.life_slots.proofs.Counted.{counted_none, counted_band, counted_past}
use Rattle.life_slots.proofs.counting.count_tile.Goals as goal
use Rattle.life_slots.proofs.counting.count_tile.Goals.{then-has_cells, else-has_cells}

pub loop-band-init : goal.loop-band-init
loop-band-init c = record { few = omega arith; counted = counted_none c.args.tile.now.rows }

pub loop-band-preserved : goal.loop-band-preserved
loop-band-preserved c =
    elim c.if-has_cells.branch [
      | then-has_cells w ↦
          let before = c.loop-band.invariant.few in
          let more = w.count_rows-count.ensures.few in
          let is = w.count-is in
          record {
            few = omega arith;
            counted = λ left top. w.count-is ∙ counted_band c.args.tile.now.rows c.loop-band.band c.loop-band.count w.count_rows-count.result c.loop-band.invariant.counted w.count_rows-count.ensures.cells left top;
          }
      | else-has_cells w ↦
          let before = c.loop-band.invariant.few in
          let is = w.count-is in
          record {
            few = omega arith;
            counted = λ left top. w.count-is ∙ counted_past c.args.tile.now.rows c.loop-band.band c.loop-band.count c.loop-band.invariant.counted (c.has_cells.ensures.void w.if-has_cells.false) left top;
          }
    ]
