use Rattle.std.proofs.Common.{arith}
use Rattle.life_orbit.specs.Hulls.{IsInHull}
use Rattle.life_orbit.proofs.HullLemmas.{inside_wider, part_itself, part_through}
use Rattle.life_orbit.proofs.Lists.{all_more}
use Rattle.life_orbit.proofs.hull.with_cells.Goals as goal

pub loop-cell-init : goal.loop-cell-init
loop-cell-init c = record { cells = λ k d h. absurd (omega arith); wider = part_itself c.args.hull }

pub loop-cell-preserved : goal.loop-cell-preserved
loop-cell-preserved c =
    let before = c.loop-cell.wider in
    let after = c.with_cell-wider.result in
    let wider = c.with_cell-wider.ensures.wider in
    record {
      cells = all_more (IsInHull after) c.args.cells.now c.loop-cell.cell-index _ c.loop-cell-test.true
          (λ k d h.
          inside_wider before after _ wider (c.loop-cell.invariant.cells k d h)) c.with_cell-wider.ensures.cell;
      wider = part_through c.args.hull before after c.loop-cell.invariant.wider wider;
    }
