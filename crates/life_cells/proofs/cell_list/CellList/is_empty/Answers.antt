use Rattle.life_cells.proofs.Sorted.{empty_test}
use Rattle.life_cells.proofs.cell_list.CellList.is_empty.Goals as goal

pub returns : goal.returns
returns c = empty_test _ _ _ c.as_slice.ensures.cells c.is_empty.ensures
