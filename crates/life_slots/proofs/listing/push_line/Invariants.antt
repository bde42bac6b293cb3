use Rattle.std.proofs.Common.{◌≡◌, ◌||◌, take}
use Rattle.std.specs.List.{list_any}
use Rattle.life_model.specs.Cell.{Cell, same_cell}
use Rattle.life_slots.specs.Seats.{has_line}
use Rattle.life_slots.proofs.listing.push_line.Given as goal

abbrev pub invariant-loop-seat : goal.invariant-loop-seat
invariant-loop-seat l =
    (q : Cell) → list_any (same_cell q) l.cells.items ≡ (list_any (same_cell q) l.initial.cells.items || list_any (has_line l.tiles l.y q) (take l.seat-index l.seats))
