use Rattle.std.proofs.Common.{◌≡◌, ◌≤◌, ◌-◌, ◌||◌, length, take}
use Rattle.std.specs.List.{list_any}
use Rattle.life_model.specs.Cell.{Cell, same_cell}
use Rattle.life_slots.specs.Seats.{has_tile}
use Rattle.life_slots.proofs.listing.push_seats.Given as goal

abbrev pub invariant-loop-from : goal.invariant-loop-from
invariant-loop-from l = record {
  inside : l.from ≤ length l.seats;
  pushed : (q : Cell) → list_any (same_cell q) l.cells.items ≡ (list_any (same_cell q) l.initial.cells.items || list_any (has_tile l.tiles q) (take l.from l.seats));
}

abbrev pub decreases-loop-from : goal.decreases-loop-from
decreases-loop-from l = length l.seats - l.from
