use Rattle.std.proofs.Common.{◌≡◌, flat_map, take}
use Rattle.std.specs.List.{All}
use Rattle.life_model.specs.Generation.{cells}
use Rattle.life_cells.specs.Limits.{IsPlace}
use Rattle.life_growing.proofs.picking.all_cells.Given as goal

abbrev pub invariant-loop-set : goal.invariant-loop-set
invariant-loop-set l = record {
  cells : l.cells.items ≡ flat_map cells (take l.set-index l.sets);
  placed : All IsPlace l.cells.items;
}
