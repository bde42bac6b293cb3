use Rattle.std.proofs.Common.{◌-◌, length, get_or, take, drop, pos, arith}
use Rattle.std.proofs.lemmas.Int.{ints, to_z-of_z}
use Rattle.life_cells.proofs.Corners.{least_by_more}
use Rattle.life_cells.proofs.cornering.corner.Goals as goal

pub loop-cell-preserved : goal.loop-cell-preserved
loop-cell-preserved c =
    let first = get_or c.args.cells.now 0 (pos 0, pos 0) in
    let rest = take (length c.args.cells.now - 1) (drop 1 c.args.cells.now) in
    let x = least_by_more (λ b. b.0) first rest c.loop-cell.cell-index (pos 0, pos 0) c.loop-cell-test.true in
    let y = least_by_more (λ b. b.1) first rest c.loop-cell.cell-index (pos 0, pos 0) c.loop-cell-test.true in
    (grind (arith, ints, to_z-of_z), grind (arith, ints, to_z-of_z))
