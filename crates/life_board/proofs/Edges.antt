-- Tiles whose edge has no live cell.
use Rattle.std.proofs.Common.{◌≡◌, ℕ, ◌<◌, Bool, true, false, ◌||◌, ◌↔◌, slice_index, refl, arith, true≢false}
use Rattle.std.specs.Int.{bit_at}
use Rattle.std.proofs.lemmas.Bool.{or_parts}
use Rattle.life_plane.specs.Area.{tile_cell}
use Rattle.life_plane.specs.declared.tile.Tile.{Tile}
use Rattle.life_slots.specs.Rims.{IsEdge, IsRimOf, IsStill}
use Rattle.life_board.specs.Squares.{IsInner}

first_edge : (side : ℕ) → side ≡ 0 → IsEdge side 0
first_edge side is = record { first = λ _. refl; last = λ never. absurd (omega arith) }

last_edge : (side : ℕ) → side ≡ 2 → IsEdge side 63
last_edge side is = record { first = λ never. absurd (omega arith); last = λ _. refl }

any_edge : (side z : ℕ) → side ≡ 1 → IsEdge side z
any_edge side z is = record { first = λ never. absurd (omega arith); last = λ never. absurd (omega arith) }

pub inner : (tile : Tile) → IsStill tile 1 → IsStill tile 3 → IsStill tile 5 → IsStill tile 7 → IsInner tile
inner tile north west east south = record {
  west = λ y high. west.still 0 y (omega arith) high (record { column = first_edge _ (omega arith); row = any_edge _ y (omega arith) });
  east = λ y high. east.still 63 y (omega arith) high (record { column = last_edge _ (omega arith); row = any_edge _ y (omega arith) });
  north = λ x wide. north.still x 0 wide (omega arith) (record { column = any_edge _ x (omega arith); row = first_edge _ (omega arith) });
  south = λ x wide. south.still x 63 wide (omega arith) (record { column = any_edge _ x (omega arith); row = last_edge _ (omega arith) });
}

-- a rim is its tile's first row, its last and its columns
pub rim_of : (tile : Tile) (columns : ℕ) → ((x : ℕ) → x < 64 → (bit_at columns x ≡ 0) ↔ ((y : ℕ) → y < 64 → tile_cell tile x y ≡ 0)) →
    IsRimOf (record { first = slice_index tile.rows 0; last = slice_index tile.rows 63; columns = columns }) tile
rim_of tile columns is = record { first = λ x wide. refl; last = λ x wide. refl; columns = is }
