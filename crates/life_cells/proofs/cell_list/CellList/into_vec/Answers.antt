use Rattle.std.proofs.Common.{sym, ap, ◌∙◌}
use Rattle.life_model.specs.Generation.{cells}
use Rattle.life_model.proofs.Generations.{cells-from_list}
use Rattle.life_cells.proofs.cell_list.CellList.into_vec.Goals as goal

pub returns-clause-cells : goal.returns-clause-cells
returns-clause-cells c = sym (cells-from_list c.self.inside.items.items c.self.invariant.0) ∙ ap cells c.self.view_is
