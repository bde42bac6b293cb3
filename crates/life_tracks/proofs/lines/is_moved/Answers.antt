use Rattle.std.proofs.Common.{Some, None}
use Rattle.life_plane.proofs.Offsets.{apart_sets, offset_of_sets}
use Rattle.life_tracks.proofs.lines.is_moved.Goals as goal

pub returns-in-Some-clause-yes : goal.returns-in-Some-clause-yes
returns-in-Some-clause-yes c =
    λ _. let offset = offset_of_sets c.args.from.now c.args.to.now c.as_slice.result.now c.as_slice-2.result.now
    c.as_slice.ensures.cells c.as_slice-2.ensures.cells (Some c.in-Some._by) c.in-Some.ensures.offset in
    (c.in-Some._by, offset.move)

pub returns-in-None-clause-no : goal.returns-in-None-clause-no
returns-in-None-clause-no c =
    λ _. apart_sets c.args.from.now c.args.to.now c.as_slice.result.now c.as_slice-2.result.now
    c.as_slice.ensures.cells c.as_slice-2.ensures.cells None c.in-None.ensures.apart
