use Rattle.std.proofs.Common.{◌+◌, ◌*◌, pos}
use Rattle.life_cells.proofs.StripLists.{behind_row}
use Rattle.life_cells.proofs.writer.count_within.Goals as goal

pub returns-then-is_below-clause-below : goal.returns-then-is_below-clause-below
returns-then-is_below-clause-below c = behind_row (pos (5 * c.args.strip + 5)) c.args.cells.now c.cells.i (pos 0, pos 0) c.cells-test.true c.requires.rising (c.is_below.ensures.0 c.if-is_below.true)
