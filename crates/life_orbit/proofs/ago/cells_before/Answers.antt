use Rattle.std.proofs.Common.{◌≤◌, length, ◌∙◌, arith}
use Rattle.life_model.specs.Cell.{opposite}
use Rattle.life_cells.specs.Limits.{IsPlace}
use Rattle.life_orbit.proofs.MovedCells.{items_rise, place_then, set_then}
use Rattle.life_orbit.proofs.ago.cells_before.Goals as goal

pub returns-in-None-clause-outside : goal.returns-in-None-clause-outside
returns-in-None-clause-outside c all =
    c.in-None.ensures.outside
    (place_then c.args.cells.now c.as_slice-places.result.now c.as_slice-places.ensures.cells (opposite c.args.by)
    IsPlace all c.loop-cell.cell-index _ c.loop-cell-test.true)

pub from_ordered-requires-clause-rising : goal.from_ordered-requires-clause-rising
from_ordered-requires-clause-rising c =
    let past = c.loop-cell-test.false in
    let all : length c.as_slice-places.result.now ≤ c.loop-cell.cell-index = omega arith in
    items_rise c.args.cells.now c.as_slice-places.result.now c.as_slice-places.ensures.cells (opposite c.args.by)
    c.loop-cell.items.items c.loop-cell.cell-index c.loop-cell.invariant.moved all

pub returns-clause-moved : goal.returns-clause-moved
returns-clause-moved c =
    let past = c.loop-cell-test.false in
    let all : length c.as_slice-places.result.now ≤ c.loop-cell.cell-index = omega arith in
    c.from_ordered.ensures
    ∙ set_then c.args.cells.now c.as_slice-places.result.now c.as_slice-places.ensures.cells (opposite c.args.by)
    c.loop-cell.items.items c.loop-cell.cell-index c.loop-cell.invariant.moved all
