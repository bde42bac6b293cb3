use Rattle.std.proofs.Common.{◌<◌, map, take, ap, ◌∙◌, arith}
use Rattle.std.proofs.lemmas.Int.{ints}
use Rattle.life_model.specs.Cell.{origin}
use Rattle.life_model.specs.Symmetry.{Same, Swap}
use Rattle.life_model.proofs.Cells.{pair}
use Rattle.life_codes.specs.Lengths.Frames.{cell_in_frame, turned_frame, wide_of}
use Rattle.life_codes.proofs.LengthsLemmas.Rows.{placed_more}
use Rattle.life_codes.proofs.lengths.marks.mark_cells.Goals as goal

pub loop-cell-preserved : goal.loop-cell-preserved
loop-cell-preserved c =
    let f = c.args.frame in
    let cs = c.args.cells.now in
    let i = c.loop-cell.cell-index in
    let inv = c.loop-cell.invariant in
    let h = c.loop-cell-test.true in
    let place = c.place_in-x.ensures.place in
    let down = ap (λ q. q.1) place in
    let row : c.place_in-x.result.1 < wide_of (turned_frame Swap f) = let inside = c.requires.inside i origin h in let above = inside.above in let below = inside.below in omega (arith, ints) in
    record {
      room = c.mark.ensures.len ∙ inv.room;
      columns_room = c.mark-in-loop-cell.ensures.len ∙ inv.columns_room;
      rows = placed_more (cell_in_frame Same f) cs i c.mark.new.rows _ h place (c.mark.ensures.marks (map (cell_in_frame Same f) (take i cs)) inv.rows);
      columns = placed_more (cell_in_frame Swap (turned_frame Swap f)) cs i c.mark-in-loop-cell.new.rows _ h (pair down (ap (λ q. q.0) place)) (c.mark-in-loop-cell.ensures.marks (map (cell_in_frame Swap (turned_frame Swap f)) (take i cs)) inv.columns);
      within = c.mark.ensures.within (wide_of f) c.place_in-x.ensures.column inv.within;
      columns_within = c.mark-in-loop-cell.ensures.within (wide_of (turned_frame Swap f)) row inv.columns_within;
    }
