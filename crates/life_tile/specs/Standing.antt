-- Cells that, moved as a whole, are among others.
use Rattle.std.specs.Prelude.{◌≡◌, ℕ, pos, ◌+ℤ◌, ◌<◌, All, List, get_or}
use Rattle.std.specs.Int.{bit_at}
use Rattle.life_model.specs.Cell.{Cell, origin, plus}
use Rattle.life_model.specs.Generation.{Generation}
use Rattle.life_plane.specs.Offsets.{IsMoveWithin}
use Rattle.life_plane.specs.declared.tile.Tile.{Tile}
use Rattle.life_plane.specs.Area.{tile_cell}
use Rattle.life_slots.specs.Ends.{IsMember}

-- each of some cells is a member after the move d
abbrev pub AreMembers : Generation → List Cell → Cell → Type 0
AreMembers G cells d = All (λ c. IsMember G (plus c d)) cells

-- a move takes the cell with this number to the given place
abbrev pub IsLedTo : List Cell → ℕ → Cell → Cell → Type 0
IsLedTo cells lead d to = plus (get_or cells lead origin) d ≡ to

-- No move that takes the cell with this number to a set bit of a word makes all of some cells members. Bit 0 is at
-- `start`.
pub record HasNoneInRow (G : Generation) (cells : List Cell) (lead word : ℕ) (start : Cell) : Type 0 where
  pub none : (j : ℕ) (d : Cell) → j < 64 → bit_at word j ≡ 1 → IsLedTo cells lead d (start.0 +ℤ pos j, start.1) → AreMembers G cells d → ⊥

-- no move by at most n places to each side that takes it to a live cell of a tile does so; the tile's first cell is at
-- `corner`
pub record HasNoneInTile (n : ℕ) (G : Generation) (cells : List Cell) (lead : ℕ) (tile : Tile) (corner : Cell) : Type 0 where
  pub none : (x y : ℕ) (d : Cell) → x < 64 → y < 64 → tile_cell tile x y ≡ 1 → IsMoveWithin n d →
      IsLedTo cells lead d (corner.0 +ℤ pos x, corner.1 +ℤ pos y) → AreMembers G cells d → ⊥
