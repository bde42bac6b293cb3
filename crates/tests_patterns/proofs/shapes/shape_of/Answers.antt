use Rattle.std.proofs.Common.{arith}
use Rattle.life_cells.proofs.Boxes.{width_at_age, height_at_age}
use Rattle.tests_patterns.proofs.shapes.shape_of.Goals as goal

pub of-requires-2-clause-wide : goal.of-requires-2-clause-wide
of-requires-2-clause-wide c =
    let h = width_at_age c.in_ok-list.list 0 (c.fits.ensures.0 c.if-not-fits.false) in
    omega arith

pub of-requires-2-clause-high : goal.of-requires-2-clause-high
of-requires-2-clause-high c =
    let h = height_at_age c.in_ok-list.list 0 (c.fits.ensures.0 c.if-not-fits.false) in
    omega arith
