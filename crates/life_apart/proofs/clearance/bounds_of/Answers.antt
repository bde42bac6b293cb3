use Rattle.std.proofs.Common.{arith}
use Rattle.std.proofs.lemmas.Int.{ints}
use Rattle.life_model.specs.Cell.{origin}
use Rattle.life_orbit.proofs.Lists.{all_more}
use Rattle.life_apart.specs.Bounds.{IsInBounds}
use Rattle.life_apart.proofs.Boxes.{in_wider}
use Rattle.life_apart.proofs.clearance.bounds_of.Goals as goal

pub loop-cell-preserved : goal.loop-cell-preserved
loop-cell-preserved c =
    all_more (IsInBounds _) c.as_slice-cell-items.result.now c.loop-cell.cell-index origin c.loop-cell-test.true
    (λ k d below. in_wider _ c.loop-cell.bounds _ (record {
      left = omega (arith, ints);
      right = omega (arith, ints);
      above = omega (arith, ints);
      below = omega (arith, ints);
    }) (c.loop-cell.invariant k d below))
    (record {
      left = omega (arith, ints);
      right = omega (arith, ints);
      above = omega (arith, ints);
      below = omega (arith, ints);
    })
