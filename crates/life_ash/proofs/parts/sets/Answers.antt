use Rattle.std.proofs.Common.{◌++◌, ◌∷◌, [], sym, ap, ◌∙◌}
use Rattle.std.proofs.lemmas.List.{map_more}
use Rattle.life_model.specs.Generation.{from_list}
use Rattle.life_model.proofs.Cells.{pair}
use Rattle.life_model.proofs.Generations.{from_list-cells}
use Rattle.life_ash.proofs.parts.sets.Goals as goal

pub loop-orbit-preserved : goal.loop-orbit-preserved
loop-orbit-preserved c =
    let copied =
    c.from_ordered.ensures
    ∙ ap from_list (c.in_ok-cells.ensures.items_if_clones_equal (λ x y e. pair e.0 e.1) ∙ c.as_slice.ensures.cells)
    ∙ from_list-cells c.set.result.now ∙ c.set.ensures ∙ ap (λ o. o.set) c.orbit-item.is in
    c.in_ok-push.ensures.items
    ∙ (λ i. c.loop-orbit.invariant i ++ copied i ∷ [])
    ∙ sym (map_more (λ o. o.set) c.args.orbits.now c.loop-orbit.orbit-index c.orbit-item.result c.loop-orbit-test.true)
