-- The cells that the tiles of seats have.
use Rattle.std.specs.Prelude.{◌≡◌, ℕ, pos, ◌+ℤ◌, ◌<◌, ◌≤◌, Bool, List, slice_index}
use Rattle.std.specs.List.{list_any}
use Rattle.life_model.specs.Cell.{Cell, same_cell}
use Rattle.life_plane.specs.declared.tile.Tile.{Tile}
use Rattle.life_slots.specs.Cells.{row_cells, block_cells}
use Rattle.life_slots.specs.Places.{start_at, IsInside}
use Rattle.life_slots.specs.Slots.{tile_of}
use Rattle.life_slots.specs.declared.seats.Seat.{Seat}

-- the place of a seat is one of a tile, and its slot one of `count`
pub record IsSeat (count : ℕ) (seat : Seat) : Type 0 where
  pub inside : IsInside (seat.column, seat.row)
  pub slot : seat.slot < count

-- its tile has live cells only from row `first` on and before row `end`
pub record IsBetween (tiles : List Tile) (first end : ℕ) (seat : Seat) : Type 0 where
  pub above : (y : ℕ) → y < first → slice_index (tile_of tiles seat.slot).rows y ≡ 0
  pub below : (y : ℕ) → end ≤ y → y < 64 → slice_index (tile_of tiles seat.slot).rows y ≡ 0

-- true where the first n rows of its tile have the cell
abbrev pub has_rows : List Tile → ℕ → Cell → Seat → Bool
has_rows tiles n q seat =
    list_any (same_cell q) (block_cells (start_at seat.column) (start_at seat.row) (tile_of tiles seat.slot).rows n)

-- true where its tile has the cell
abbrev pub has_tile : List Tile → Cell → Seat → Bool
has_tile tiles q seat =
    list_any (same_cell q) (block_cells (start_at seat.column) (start_at seat.row) (tile_of tiles seat.slot).rows 64)

-- true where row y of its tile has the cell
abbrev pub has_line : List Tile → ℕ → Cell → Seat → Bool
has_line tiles y q seat =
    list_any (same_cell q)
    (row_cells (start_at seat.column) (start_at seat.row +ℤ pos y) (slice_index (tile_of tiles seat.slot).rows y) 64)
