use Rattle.std.proofs.Common.{get_or, pos, sym}
use Rattle.life_strays.proofs.Places.{listed_cell, reached_itself}
use Rattle.life_strays.proofs.refusing.meet.Goals as goal

pub returns-then-reaches : goal.returns-then-reaches
returns-then-reaches c =
    let items = c.as_slice-cell-items.result.now in
    let place = c.loop-cell.cell-index in (
      get_or items place (pos 0, pos 0),
      listed_cell c.args.set.now items place (pos 0, pos 0) c.as_slice-cell-items.ensures.cells c.loop-cell-test.true,
      reached_itself c.args.other.now (get_or items place (pos 0, pos 0)) (sym c.if-reaches.ensures),
    )
