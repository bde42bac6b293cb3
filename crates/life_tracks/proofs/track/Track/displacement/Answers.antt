use Rattle.std.proofs.Common.{ap, sym, subst, ◌∙◌, length}
use Rattle.life_model.specs.Cell.{opposite, plus}
use Rattle.life_model.specs.Symmetry.{corner}
use Rattle.life_cells.specs.Limits.{IsPlace}
use Rattle.life_cells.proofs.Corners.{corner_place}
use Rattle.life_growth.specs.Engines.Tracks.{core_along}
use Rattle.life_tracks.specs.Tracks.{Path}
use Rattle.life_tracks.proofs.Corners.{difference}
use Rattle.life_tracks.proofs.track.Track.displacement.Goals as goal

pub move_between-requires-clause-from_placed : goal.move_between-requires-clause-from_placed
move_between-requires-clause-from_placed c =
    subst IsPlace (sym c.corner-from.ensures) (corner_place c.as_slice-2.result.now c.as_slice-2.ensures.placed)

pub move_between-requires-clause-to_placed : goal.move_between-requires-clause-to_placed
move_between-requires-clause-to_placed c =
    subst IsPlace (sym c.corner-to.ensures) (corner_place c.as_slice-3.result.now c.as_slice-3.ensures.placed)

pub returns : goal.returns
returns c =
    let start = c.self.inside.start in
    difference start c.end_of-last.result.now c.as_slice-2.result.now c.as_slice-3.result.now c.corner-from.result
    c.corner-to.result c.move_between.result c.as_slice-2.ensures.cells c.as_slice-3.ensures.cells c.corner-from.ensures
    c.corner-to.ensures c.move_between.ensures
    ∙ ap (λ P. plus (opposite (corner start)) (corner P))
    (c.end_of-last.ensures ∙ ap (λ ss. core_along start ss (length ss)) c.as_slice.ensures.value)
    ∙ ap (λ (p : Path). plus (opposite (corner p.start)) (corner (core_along p.start p.steps (length p.steps)))) c.self.view_is
