use Rattle.std.proofs.Common.{◌≡◌, ◌≢◌, pos, ⊎_elim, get_or, sym, ap, ◌∙◌}
use Rattle.std.specs.List.{list_any}
use Rattle.std.proofs.lemmas.List.{take_all}
use Rattle.life_model.specs.Cell.{Cell, plus, same_cell}
use Rattle.life_model.proofs.Generations.{contains-from_list}
use Rattle.life_plane.specs.Flags.{as_bit}
use Rattle.life_slots.proofs.LeafCells.{cell_here, cell_elsewhere, one_or_other}
use Rattle.life_slots.proofs.leaf.Leaf.of.Goals as goal

pub loop-cell-preserved : goal.loop-cell-preserved
loop-cell-preserved c = record {
  shows = λ x y column row.
      let q : Cell = plus c.args.place (pos x, pos y) in
      let none : Cell = (pos 0, pos 0) in
      ⊎_elim
      (λ (same : get_or c.args.cells.now c.loop-cell.cell-index none ≡ q).
      c.put.ensures.here x y column row same ∙ sym (ap as_bit (cell_here c.args.cells.now c.loop-cell.cell-index none c.loop-cell-test.true q same)))
      (λ (other : get_or c.args.cells.now c.loop-cell.cell-index none ≢ q).
      c.put.ensures.elsewhere x y column row other
      ∙ c.loop-cell.invariant.shows x y column row
      ∙ sym (ap as_bit (cell_elsewhere c.args.cells.now c.loop-cell.cell-index none c.loop-cell-test.true q other)))
      (one_or_other (get_or c.args.cells.now c.loop-cell.cell-index none) q);
}

pub returns : goal.returns
returns c = λ x y column row.
    let q : Cell = plus c.args.place (pos x, pos y) in
    c.loop-cell.invariant.shows x y column row
    ∙ ap as_bit (ap (list_any (same_cell q)) (take_all c.loop-cell.cell-index c.args.cells.now c.loop-cell-test.false) ∙ sym (contains-from_list c.args.cells.now q))
