use Rattle.std.proofs.Common.{pos, get_or, arith}
use Rattle.std.proofs.lemmas.Int.{ints}
use Rattle.life_cells.specs.Limits.{IsPlace}
use Rattle.life_model.proofs.Cells.{pair}
use Rattle.life_strays.proofs.Places.{dead_by_row, listed_cell}
use Rattle.life_strays.proofs.returning.may_lead.Goals as goal

pub returns-then-row-eq0 : goal.returns-then-row-eq0
returns-then-row-eq0 g c = λ is moved.
    let G = g.P.Plane.members c.args.plane.now in
    let items = c.as_slice-cell-items.result.now in
    let place = c.loop-cell.cell-index in
    let cell = get_or items place (pos 0, pos 0) in
    let placed : IsPlace cell = c.as_slice-cell-items.ensures.placed place (pos 0, pos 0) c.loop-cell-test.true in
    dead_by_row G cell c.args.by _ c.row.result c.row.ensures (pair (omega (arith, ints)) (omega (arith, ints)))
    c.if-row-eq0.true
    (moved cell
    (listed_cell c.args.cells.now items place (pos 0, pos 0) c.as_slice-cell-items.ensures.cells c.loop-cell-test.true))
