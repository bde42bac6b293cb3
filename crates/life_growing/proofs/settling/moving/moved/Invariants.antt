use Rattle.std.proofs.Common.{◌≡◌, map, take}
use Rattle.std.specs.List.{All}
use Rattle.life_model.specs.Cell.{plus}
use Rattle.life_cells.specs.Limits.{IsPlace}
use Rattle.life_growing.proofs.settling.moving.moved.Given as goal

abbrev pub invariant-loop-cell : goal.invariant-loop-cell
invariant-loop-cell l = record {
  moved : l.items.items ≡ map (λ c. plus c l.by) (take l.cell-index l.places);
  placed : All IsPlace l.items.items;
}
