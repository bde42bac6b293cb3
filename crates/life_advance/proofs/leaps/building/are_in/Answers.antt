-- One cell more that stands in the square.
use Rattle.std.proofs.Common.{pos, ◌<◌, length, arith}
use Rattle.life_advance.proofs.LeapsLemmas.BuildLemmas.{inside_more}
use Rattle.life_advance.proofs.leaps.building.are_in.Goals as goal

pub loop-cell-preserved : goal.loop-cell-preserved
loop-cell-preserved c =
    let inside : c.loop-cell.cell-index < length c.args.cells.now = omega arith in
    inside_more c.args.cells.now c.args.site.now c.loop-cell.cell-index (pos 0, pos 0) inside c.loop-cell.invariant
    (record { x = c.in-Some.field-0.0; y = c.in-Some.field-0.1; wide = c.in-Some.ensures.wide; high = c.in-Some.ensures.high; is = c.in-Some.ensures.is })
