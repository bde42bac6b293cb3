use Rattle.std.proofs.Common.{◌-◌, ◌<◌, arith}
use Rattle.life_plane.proofs.EmptyRows.{void_behind}
use Rattle.life_plane.proofs.eights.end_of_eights.Goals as goal

pub loop-band-preserved : goal.loop-band-preserved
loop-band-preserved c =
    let high = c.loop-band.invariant.high in
    let some : 0 < c.loop-band.band = c.loop-band-test.true in
    record {
      high = omega arith;
      void = void_behind c.args.tile.now.rows (c.loop-band.band - 1) (λ y from inside. c.loop-band.invariant.void y (omega arith) inside) (c.has_cells.ensures.void c.if-has_cells.false);
    }
