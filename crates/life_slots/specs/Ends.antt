-- The first and the last of some cells, by y, then by x.
use Rattle.std.specs.Prelude.{◌≡◌, ◌⊎◌, ℕ, ℤ, pos, ◌+ℤ◌, ◌<◌, ◌≤ℤ◌, true, List, Option, Some, None}
use Rattle.life_model.specs.Cell.{Cell}
use Rattle.life_model.specs.Generation.{Generation, contains}
use Rattle.life_plane.specs.declared.tile.Tile.{Tile}
use Rattle.life_plane.specs.Area.{tile_cell}
use Rattle.life_slots.specs.Places.{start_at}
use Rattle.life_slots.specs.declared.slot.Slot.{Slot}
use Rattle.life_slots.specs.declared.ends.Ends.{Ends}
use Rattle.life_slots.specs.Slots.{place_of, tile_of}

-- a is b or comes before it
pub record IsNoLater (a b : Cell) : Type 0 where
  pub above : a.1 ≤ℤ b.1
  pub left : a.1 ≡ b.1 → a.0 ≤ℤ b.0

-- no cell of a tile is live
pub record IsVoid (tile : Tile) : Type 0 where
  pub dead : (x y : ℕ) → x < 64 → y < 64 → tile_cell tile x y ≡ 0

-- the first live cell of a tile is in column x and row y
pub record IsFirstIn (tile : Tile) (x y : ℕ) : Type 0 where
  pub wide : x < 64
  pub high : y < 64
  pub live : tile_cell tile x y ≡ 1
  pub above : (p q : ℕ) → p < 64 → q < y → tile_cell tile p q ≡ 0
  pub before : (p : ℕ) → p < x → tile_cell tile p y ≡ 0

-- the last live cell of a tile is in column x and row y
pub record IsLastIn (tile : Tile) (x y : ℕ) : Type 0 where
  pub wide : x < 64
  pub high : y < 64
  pub live : tile_cell tile x y ≡ 1
  pub below : (p q : ℕ) → p < 64 → y < q → q < 64 → tile_cell tile p q ≡ 0
  pub behind : (p : ℕ) → x < p → p < 64 → tile_cell tile p y ≡ 0

-- c is a live cell of the tile at a place
pub record IsLiveIn (tile : Tile) (place : ℤ × ℤ) (c : Cell) : Type 0 where
  pub x : ℕ
  pub y : ℕ
  pub wide : x < 64
  pub high : y < 64
  pub live : tile_cell tile x y ≡ 1
  pub is : c ≡ (start_at place.0 +ℤ pos x, start_at place.1 +ℤ pos y)

-- c is a live cell of the tile of a slot from 1 to n - 1
pub record IsLiveAt (slots : List Slot) (tiles : List Tile) (n : ℕ) (c : Cell) : Type 0 where
  pub k : ℕ
  pub later : 0 < k
  pub before : k < n
  pub here : IsLiveIn (tile_of tiles k) (place_of slots k) c

-- a cell is in a set
abbrev pub IsMember : Generation → Cell → Type 0
IsMember G c = contains G c ≡ true

-- the first and the last of the cells of a kind
pub record HasEnds (kind : Cell → Type 0) (ends : Ends) : Type 0 where
  pub first : kind ends.first
  pub last : kind ends.last
  pub none_before : (c : Cell) → kind c → IsNoLater ends.first c
  pub none_behind : (c : Cell) → kind c → IsNoLater c ends.last

-- the first and the last of the cells of a kind, where there may be none
abbrev pub AreEnds : (Cell → Type 0) → Option Ends → Type 0
AreEnds kind None = (c : Cell) → kind c → ⊥
AreEnds kind (Some ends) = HasEnds kind ends

-- the ends of cells with two ends and of others with two ends
pub record AreJoined (a b both : Ends) : Type 0 where
  pub first : (both.first ≡ a.first) ⊎ (both.first ≡ b.first)
  pub first_a : IsNoLater both.first a.first
  pub first_b : IsNoLater both.first b.first
  pub last : (both.last ≡ a.last) ⊎ (both.last ≡ b.last)
  pub last_a : IsNoLater a.last both.last
  pub last_b : IsNoLater b.last both.last
