use Rattle.std.proofs.Common.{◌≡◌, ◌≤◌, ◌||◌}
use Rattle.std.specs.List.{list_any}
use Rattle.life_model.specs.Cell.{Cell, same_cell}
use Rattle.life_slots.specs.Seats.{has_rows}
use Rattle.life_slots.proofs.listing.push_lines.Given as goal

abbrev pub invariant-loop-y : goal.invariant-loop-y
invariant-loop-y l = record {
  inside : l.y ≤ 64;
  pushed : (q : Cell) → list_any (same_cell q) l.cells.items ≡ (list_any (same_cell q) l.initial.cells.items || list_any (has_rows l.tiles l.y q) l.seats);
}
