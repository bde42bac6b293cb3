use Rattle.std.proofs.Common.{pos, ◌∙◌, arith}
use Rattle.std.proofs.lemmas.Int.{ints, to_z-of_z}
use Rattle.life_cells.proofs.Boxes.{all_in_field, extent_more, height_of_cells}
use Rattle.life_cells.proofs.shape.Shape.height.Goals as goal

pub overflow_cast-cell : goal.overflow_cast-cell
overflow_cast-cell c =
    let e = c.as_slice-cell-items.ensures in
    let here = all_in_field c.self.inside.list _ c.self.invariant e.cells e.placed c.loop-cell.cell-index (pos 0, pos 0) c.loop-cell-test.true in
    (omega (arith, ints), omega (arith, ints))

pub loop-cell-preserved : goal.loop-cell-preserved
loop-cell-preserved c =
    let e = c.as_slice-cell-items.ensures in
    let here = all_in_field c.self.inside.list _ c.self.invariant e.cells e.placed c.loop-cell.cell-index (pos 0, pos 0) c.loop-cell-test.true in
    let more = extent_more (λ b. b.1) _ c.loop-cell.cell-index (pos 0, pos 0) c.loop-cell-test.true in
    grind (arith, ints, to_z-of_z)

pub returns : goal.returns
returns c =
    let e = c.as_slice-cell-items.ensures in
    c.loop-cell.invariant ∙ height_of_cells c.self.inside.list c.args.self.now _ _ c.self.invariant e.cells c.self.view_is (omega arith)
