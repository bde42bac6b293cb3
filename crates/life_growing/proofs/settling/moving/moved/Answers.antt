use Rattle.std.proofs.Common.{◌≤◌, length, ◌∙◌, arith}
use Rattle.life_orbit.proofs.MovedCells.{items_rise, set_then}
use Rattle.life_growing.proofs.settling.moving.moved.Goals as goal

pub from_ordered-requires-clause-rising : goal.from_ordered-requires-clause-rising
from_ordered-requires-clause-rising c =
    let past = c.loop-cell-test.false in
    let all : length c.as_slice-places.result.now ≤ c.loop-cell.cell-index = omega arith in
    items_rise c.args.cells.now c.as_slice-places.result.now c.as_slice-places.ensures.cells c.args.by
    c.loop-cell.items.items c.loop-cell.cell-index c.loop-cell.invariant.moved all

pub returns : goal.returns
returns c =
    let past = c.loop-cell-test.false in
    let all : length c.as_slice-places.result.now ≤ c.loop-cell.cell-index = omega arith in
    c.from_ordered.ensures
    ∙ set_then c.args.cells.now c.as_slice-places.result.now c.as_slice-places.ensures.cells c.args.by
    c.loop-cell.items.items c.loop-cell.cell-index c.loop-cell.invariant.moved all
