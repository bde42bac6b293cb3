use Rattle.std.proofs.Common.{◌∙◌, ap}
use Rattle.life_model.specs.Generation.{from_list}
use Rattle.life_model.proofs.Cells.{pair}
use Rattle.life_model.proofs.Generations.{from_list-cells}
use Rattle.life_tracks.proofs.reading.copied.Goals as goal

pub returns : goal.returns
returns c =
    c.from_ordered.ensures
    ∙ ap from_list (c.in_ok-to_vec.ensures.items_if_clones_equal (λ x y e. pair e.0 e.1) ∙ c.as_slice.ensures.cells)
    ∙ from_list-cells c.args.cells.now
