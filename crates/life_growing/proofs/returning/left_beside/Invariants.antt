use Rattle.std.proofs.Common.{◌≡◌, filter, not, take}
use Rattle.std.specs.List.{All}
use Rattle.life_model.specs.Generation.{contains}
use Rattle.life_model.specs.Symmetry.{translate_of}
use Rattle.life_cells.specs.Limits.{IsPlace}
use Rattle.life_growing.proofs.returning.left_beside.Given as goal

abbrev pub invariant-loop-cell : goal.invariant-loop-cell
invariant-loop-cell l = record {
  left : l.items.items ≡ filter (λ c. not (contains (translate_of l.cells l.fn.by) c)) (take l.cell-index l.cell-items);
  placed : All IsPlace l.items.items;
}
