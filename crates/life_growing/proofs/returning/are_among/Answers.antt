use Rattle.std.proofs.Common.{get_or, sym, ap, ◌∙◌, true≢false}
use Rattle.life_model.specs.Cell.{origin}
use Rattle.life_model.specs.Generation.{contains}
use Rattle.life_ash.proofs.Finding.{of_none}
use Rattle.life_islands.proofs.Labelled.{listed_cell}
use Rattle.life_growing.proofs.ComingBack.{moved_stands}
use Rattle.life_growing.proofs.returning.are_among.Goals as goal

pub returns-in-None : goal.returns-in-None
returns-in-None c = record {
  no = λ same among.
      let E = c.args.cells.now in
      let all = c.as_slice-cell-items.result.now in
      let here = moved_stands E c.args.later.now c.args.by (get_or all c.loop-cell.cell-index origin) among
      (listed_cell E all c.loop-cell.cell-index c.as_slice-cell-items.ensures.cells c.loop-cell-test.true) in
      true≢false (sym here ∙ ap (contains c.args.later.now) (sym c.moved.ensures)
      ∙ of_none c.in-None.is c.index_near.ensures.none);
}
