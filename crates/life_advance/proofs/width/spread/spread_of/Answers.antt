-- Cells between two places are no further apart than these.
use Rattle.std.proofs.Common.{pos, All, get_or, w32, to_z, subst, arith}
use Rattle.std.proofs.lemmas.Int.{ints, to_z-of_z}
use Rattle.std.proofs.lemmas.List.{take_all}
use Rattle.std.proofs.lemmas.List.Elements.{All-get_or}
use Rattle.life_cells.specs.Limits.{IsPlace}
use Rattle.life_advance.proofs.WidthLemmas.Ranges.{IsBetween, between_all, between_more}
use Rattle.life_advance.proofs.width.spread.spread_of.Goals as goal

pub loop-cell-init : goal.loop-cell-init
loop-cell-init c = record { columns = λ k d h. absurd (omega arith); rows = λ k d h. absurd (omega arith) }

pub loop-cell-preserved : goal.loop-cell-preserved
loop-cell-preserved c =
    let place : IsPlace (get_or c.args.cells.now c.loop-cell.cell-index (pos 0, pos 0)) = All-get_or IsPlace c.args.cells.now c.loop-cell.cell-index (pos 0, pos 0) c.loop-cell-test.true c.requires in
    let left = place.left in
    let right = place.right in
    let above = place.above in
    let below = place.below in
    let a = c.min-west.ensures in
    let b = c.max-east.ensures in
    let e = c.min-north.ensures in
    let f = c.max-south.ensures in
    record {
      columns = between_more (λ q. q.0) (to_z w32 c.loop-cell.west-bits) (to_z w32 c.loop-cell.east-bits) _ _ c.args.cells.now c.loop-cell.cell-index (pos 0, pos 0) c.loop-cell-test.true
          (grind (arith, ints, to_z-of_z)) (grind (arith, ints, to_z-of_z)) (grind (arith, ints, to_z-of_z)) (grind (arith, ints, to_z-of_z)) c.loop-cell.invariant.columns;
      rows = between_more (λ q. q.1) (to_z w32 c.loop-cell.north-bits) (to_z w32 c.loop-cell.south-bits) _ _ c.args.cells.now c.loop-cell.cell-index (pos 0, pos 0) c.loop-cell-test.true
          (grind (arith, ints, to_z-of_z)) (grind (arith, ints, to_z-of_z)) (grind (arith, ints, to_z-of_z)) (grind (arith, ints, to_z-of_z)) c.loop-cell.invariant.rows;
    }

pub returns-clause-columns : goal.returns-clause-columns
returns-clause-columns c =
    let all = subst (λ cs. All (λ q. IsBetween (to_z w32 c.loop-cell.west-bits) (to_z w32 c.loop-cell.east-bits) q.0) cs) (take_all c.loop-cell.cell-index c.args.cells.now c.loop-cell-test.false) c.loop-cell.invariant.columns in
    between_all (λ q. q.0) (to_z w32 c.loop-cell.west-bits) (to_z w32 c.loop-cell.east-bits) c.args.cells.now c.abs_diff.result (grind (arith, ints, to_z-of_z)) all

pub returns-clause-rows : goal.returns-clause-rows
returns-clause-rows c =
    let all = subst (λ cs. All (λ q. IsBetween (to_z w32 c.loop-cell.north-bits) (to_z w32 c.loop-cell.south-bits) q.1) cs) (take_all c.loop-cell.cell-index c.args.cells.now c.loop-cell-test.false) c.loop-cell.invariant.rows in
    between_all (λ q. q.1) (to_z w32 c.loop-cell.north-bits) (to_z w32 c.loop-cell.south-bits) c.args.cells.now c.abs_diff-2.result (grind (arith, ints, to_z-of_z)) all
