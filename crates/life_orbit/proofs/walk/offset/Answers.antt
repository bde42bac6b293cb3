use Rattle.life_plane.proofs.Offsets.{offset_of_sets, apart_sets}
use Rattle.life_orbit.proofs.walk.offset.Goals as goal

pub returns-clause-offset : goal.returns-clause-offset
returns-clause-offset c =
    offset_of_sets c.args.from.now c.args.to.now c.as_slice.result.now c.as_slice-2.result.now c.as_slice.ensures.cells
    c.as_slice-2.ensures.cells c.offset_between.result c.offset_between.ensures.offset

pub returns-clause-apart : goal.returns-clause-apart
returns-clause-apart c =
    apart_sets c.args.from.now c.args.to.now c.as_slice.result.now c.as_slice-2.result.now c.as_slice.ensures.cells
    c.as_slice-2.ensures.cells c.offset_between.result c.offset_between.ensures.apart
