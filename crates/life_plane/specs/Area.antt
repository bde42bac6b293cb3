-- A tile and the eight around it, as 192 rows of 192 cells.
use Rattle.std.specs.Prelude.{ℕ, ◌+◌, ◌-◌, if◌then◌else◌, nat_lt, slice_index}
use Rattle.std.specs.Int.{bit_at}
use Rattle.life_plane.specs.Bits.{wide_row, next_state}
use Rattle.life_model.specs.Rule.{Rule}
use Rattle.life_plane.specs.declared.tile.Tile.{Tile}
use Rattle.life_plane.specs.declared.tile.Around.{Around}

-- the cell of a tile in column x and row y: 1 if it is live, and 0 if not
abbrev pub tile_cell : Tile → ℕ → ℕ → ℕ
tile_cell tile x y = bit_at (slice_index tile.rows y) x

-- a tile and the eight around it
pub record Nine : Type 0 where
  pub north_west : Tile
  pub north : Tile
  pub north_east : Tile
  pub west : Tile
  pub here : Tile
  pub east : Tile
  pub south_west : Tile
  pub south : Tile
  pub south_east : Tile

abbrev pub nine_of : Tile → Around → Nine
nine_of tile around = record {
  north_west = around.north_west.now;
  north = around.north.now;
  north_east = around.north_east.now;
  west = around.west.now;
  here = tile;
  east = around.east.now;
  south_west = around.south_west.now;
  south = around.south.now;
  south_east = around.south_east.now;
}

-- row y of three tiles side by side
abbrev pub three_wide : Tile → Tile → Tile → ℕ → ℕ
three_wide left middle right y = wide_row (slice_index left.rows y) (slice_index middle.rows y) (slice_index right.rows y)

-- row y of the nine: 0 to 63 is in the northern tiles, 64 to 127 in the middle ones, 128 to 191 in the southern ones
abbrev pub area_row : Nine → ℕ → ℕ
area_row nine y =
    if nat_lt y 64
    then three_wide nine.north_west nine.north nine.north_east y
    else if nat_lt y 128
    then three_wide nine.west nine.here nine.east (y - 64)
    else three_wide nine.south_west nine.south nine.south_east (y - 128)

-- the cell of the nine in column x and row y, both counted from 0 to 191
abbrev pub area_cell : Nine → ℕ → ℕ → ℕ
area_cell nine x y = bit_at (area_row nine y) x

-- the sum over the eight places around the place (x + 1, y + 1)
abbrev pub sum_around : (ℕ → ℕ → ℕ) → ℕ → ℕ → ℕ
sum_around cell x y =
    cell x y + cell (x + 1) y + cell (x + 2) y
    + cell x (y + 1) + cell (x + 2) (y + 1)
    + cell x (y + 2) + cell (x + 1) (y + 2) + cell (x + 2) (y + 2)

-- the next state of the cell in column x and row y of the middle tile
abbrev pub next_in_area : Rule → Nine → ℕ → ℕ → ℕ
next_in_area rule nine x y =
    next_state rule (area_cell nine (x + 64) (y + 64)) (sum_around (area_cell nine) (x + 63) (y + 63))
