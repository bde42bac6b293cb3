-- The difference of eight rows of a tile from what was there before.
use Rattle.std.specs.Prelude.{◌≡◌, ℕ, ◌+◌, ◌<◌, ◌↔◌}
use Rattle.std.specs.Int.{bit_at}
use Rattle.life_plane.specs.declared.tile.Tile.{Tile}
use Rattle.life_plane.specs.Area.{tile_cell}
use Rattle.life_plane.specs.declared.kernel.Change.{Change}

-- the cell in column x and row y is the same in both
abbrev pub IsSameCell : Tile → Tile → ℕ → ℕ → Type 0
IsSameCell old new x y = tile_cell new x y ≡ tile_cell old x y

-- The bit of a column is clear exactly if no cell of the column changed: in rows `top` to `top + 7`, in the first of
-- these, and in the last.
pub record IsChange (change : Change) (old new : Tile) (top : ℕ) : Type 0 where
  pub all : (x : ℕ) → x < 64 → (bit_at change.all x ≡ 0) ↔ ((y : ℕ) → y < 8 → IsSameCell old new x (top + y))
  pub first : (x : ℕ) → x < 64 → (bit_at change.first x ≡ 0) ↔ IsSameCell old new x top
  pub last : (x : ℕ) → x < 64 → (bit_at change.last x ≡ 0) ↔ IsSameCell old new x (top + 7)
