use Rattle.std.proofs.Common.{◌∷◌, [], ap, ◌∙◌}
use Rattle.life_model.specs.Generation.{from_list}
use Rattle.life_model.proofs.Cells.{pair}
use Rattle.life_model.proofs.Generations.{from_list-cells}
use Rattle.life_growth.specs.Things.{core_thing}
use Rattle.life_tracks.specs.Tracks.{way_of}
use Rattle.life_growing.proofs.GoingCores.{first_more, same_core}
use Rattle.life_growing.proofs.lefts.core_things.Goals as goal

pub loop-n-preserved : goal.loop-n-preserved
loop-n-preserved c =
    let way = way_of c.args.track.now in
    let n = c.loop-n.n in
    let it = c.new.result in
    first_more (core_thing way) c.loop-n.things.items c.push.new.self.items it n c.loop-n.invariant c.in_ok-push.ensures.items
    (same_core way n it c.new.ensures.time
    (c.new.ensures.set ∙ c.from_ordered-cells.ensures
    ∙ ap from_list (c.in_ok-to_vec.ensures.items_if_clones_equal (λ x y e. pair e.0 e.1) ∙ c.as_slice.ensures.cells)
    ∙ from_list-cells c.core_before-core.result.now ∙ c.core_before-core.ensures)
    (c.new.ensures.ways ∙ ap (λ w. w ∷ []) c.way_along-way.ensures))
