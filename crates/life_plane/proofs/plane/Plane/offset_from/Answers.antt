use Rattle.std.proofs.Common.{ap, ◌∙◌}
use Rattle.life_model.specs.Generation.{cells}
use Rattle.life_plane.proofs.Offsets.{offset_of_sets, apart_sets}
use Rattle.life_plane.proofs.plane.Plane.offset_from.Goals as goal

pub returns-clause-offset : goal.returns-clause-offset
returns-clause-offset g c =
    offset_of_sets _ _ _ _ c.as_slice.ensures.cells (c.as_slice-2.ensures.cells ∙ ap cells c.in_ok-cells.ensures.cells) c.offset_between.result c.offset_between.ensures.offset

pub returns-clause-apart : goal.returns-clause-apart
returns-clause-apart g c =
    apart_sets _ _ _ _ c.as_slice.ensures.cells (c.as_slice-2.ensures.cells ∙ ap cells c.in_ok-cells.ensures.cells) c.offset_between.result c.offset_between.ensures.apart
