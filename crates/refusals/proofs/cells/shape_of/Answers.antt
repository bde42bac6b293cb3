use Rattle.std.proofs.Common.{arith}
use Rattle.life_cells.proofs.Boxes.{width_at_age, height_at_age}
use Rattle.refusals.proofs.cells.shape_of.Goals as goal

pub of-requires-clause-wide : goal.of-requires-clause-wide
of-requires-clause-wide c =
    let h = width_at_age c.args.list.now 0 (c.fits.ensures.0 c.if-not-fits.false) in
    omega arith

pub of-requires-clause-high : goal.of-requires-clause-high
of-requires-clause-high c =
    let h = height_at_age c.args.list.now 0 (c.fits.ensures.0 c.if-not-fits.false) in
    omega arith
