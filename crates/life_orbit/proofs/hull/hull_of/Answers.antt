use Rattle.std.proofs.Common.{subst}
use Rattle.life_orbit.specs.Hulls.{HoldsAllCells}
use Rattle.life_orbit.proofs.HullLemmas.{has_all_of, wider_has_all}
use Rattle.life_orbit.proofs.Lists.{all_more}
use Rattle.life_orbit.proofs.hull.hull_of.Goals as goal

pub loop-set-preserved : goal.loop-set-preserved
loop-set-preserved c =
    let before = c.loop-set.hull in
    let after = c.with_cells-hull.result in
    all_more (HoldsAllCells after) c.args.sets.now c.loop-set.set-index c.set-item.result c.loop-set-test.true
    (λ k d h. wider_has_all before after _ c.with_cells-hull.ensures.wider (c.loop-set.invariant k d h))
    (subst (HoldsAllCells after) c.set-item.is
    (has_all_of after c.set-item.result c.as_slice.result.now c.as_slice.ensures.cells
    c.with_cells-hull.ensures.cells))
