use Rattle.life_plane.proofs.EmptyRows.{void_before}
use Rattle.life_plane.proofs.eights.first_eight.Goals as goal

pub loop-band-preserved : goal.loop-band-preserved
loop-band-preserved c = void_before c.args.tile.now.rows c.loop-band.band c.loop-band.invariant (c.has_cells.ensures.void c.if-has_cells.false)
