use Rattle.std.proofs.Common.{◌++◌, ap, sym, ◌∙◌}
use Rattle.life_model.specs.Generation.{cells}
use Rattle.life_apart.specs.Sets.{sets_of}
use Rattle.std.proofs.Common.{flat_map, take}
use Rattle.life_apart.proofs.Together.{more_cells}
use Rattle.life_apart.proofs.checks.all_cells.Goals as goal

pub loop-orbit-preserved : goal.loop-orbit-preserved
loop-orbit-preserved c =
    let more = more_cells c.args.orbits.now c.loop-orbit.orbit-index c.orbit-item.result c.loop-orbit-test.true in
    c.in_ok-extend_from_slice.ensures.items
    ∙ (λ i. c.loop-orbit.invariant i ++ c.as_slice.ensures.cells i)
    ∙ ap (λ g. flat_map cells (sets_of (take c.loop-orbit.orbit-index c.args.orbits.now)) ++ cells g)
    (c.set.ensures ∙ ap (λ o. o.set) c.orbit-item.is)
    ∙ sym more
