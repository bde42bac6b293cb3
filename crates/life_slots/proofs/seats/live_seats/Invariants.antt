use Rattle.std.proofs.Common.{◌≡◌, ◌<◌, ◌||◌, All, length}
use Rattle.std.specs.List.{list_any}
use Rattle.life_model.specs.Cell.{Cell, same_cell}
use Rattle.life_slots.specs.Cells.{tiles_cells}
use Rattle.life_slots.specs.Places.{IsInside}
use Rattle.life_slots.specs.Seats.{has_tile, IsSeat}
use Rattle.life_slots.specs.Slots.{placed_tiles}
use Rattle.life_slots.proofs.seats.live_seats.Given as goal

abbrev pub invariant-loop-place : goal.invariant-loop-place
invariant-loop-place l = record {
  next_is : (goal.iterator-loop-place).can_next l.place-iterator × (goal.iterator-loop-place).is_finite l.place-iterator;
  inside : All (λ e. IsInside e.0) l.place-iterator;
  slots : All (λ e. e.1 < length l.tiles) l.place-iterator;
  seats : All (IsSeat (length l.tiles)) l.seats.items;
  cells : (q : Cell) → (list_any (has_tile l.tiles q) l.seats.items || list_any (same_cell q) (tiles_cells (placed_tiles l.place-iterator l.tiles)))
      ≡ list_any (same_cell q) (tiles_cells (placed_tiles l.index.entries l.tiles));
}
