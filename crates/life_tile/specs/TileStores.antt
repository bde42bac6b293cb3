-- The invariant of a store of tiles.
use Rattle.std.specs.Prelude.{◌≡◌, ◌≢◌, ◌⊎◌, ℕ, ℤ, pos, ◌+ℤ◌, ◌/◌, ◌<◌, ◌≤◌, true, false, [], ◌∷◌, ◌++◌, length, vec_len}
use Rattle.std.specs.Vec.{vec_capacity}
use Rattle.life_model.specs.Cell.{Cell}
use Rattle.life_model.specs.Generation.{Generation, contains}
use Rattle.life_model.specs.Evolution.{next}
use Rattle.life_cells.specs.Limits.{IsWithin, age_limit}
use Rattle.life_plane.specs.declared.tile.Tile.{Tile}
use Rattle.life_plane.specs.Area.{tile_cell}
use Rattle.life_slots.specs.Places.{start_at}
use Rattle.life_slots.specs.Cells.{state_at}
use Rattle.life_slots.specs.declared.slot.Slot.{Slot}
use Rattle.life_slots.specs.Slots.{slot_at, place_of, link_of, tile_of, empty_tile, generation_shown, IsReached}
use Rattle.life_slots.specs.Ends.{IsVoid}
use Rattle.life_slots.specs.Indexes.{IsIndexed, IsClosed}
use Rattle.life_slots.specs.Work.{band_mark, IsIdle, IsCalm}
use Rattle.life_slots.specs.declared.bands.Bands.{Bands}
use Rattle.life_tile.specs.declared.tile_store.TileStore.{TileStore}

-- the invariant of a store, apart from what its tiles have: slot 0 has the empty tile
pub record IsTileStore (store : TileStore) : Type 0 where
  pub indexed : IsIndexed store.index store.slots.items
  pub current_length : length store.current.items ≡ length store.slots.items
  pub previous_length : length store.previous.items ≡ length store.slots.items
  pub active_length : length store.active.items ≡ length store.slots.items
  pub next_active_length : length store.next_active.items ≡ length store.slots.items
  pub current_none : tile_of store.current.items 0 ≡ empty_tile
  pub previous_none : tile_of store.previous.items 0 ≡ empty_tile

-- this generation
abbrev pub members_of : TileStore → Generation
members_of store = generation_shown store.index store.current.items

-- the generation that the other tiles show: the one before, if there is one
abbrev pub earlier_of : TileStore → Generation
earlier_of store = generation_shown store.index store.previous.items

-- the band of a slot is in the next generation what it was in the generation before this one
pub record IsSettled (store : TileStore) (k band : ℕ) : Type 0 where
  pub known : store.lacks_previous ≡ false
  pub cell : (x y : ℕ) → x < 64 → y < 64 → y / 8 ≡ band →
      tile_cell (tile_of store.previous.items k) x y
      ≡ state_at (next store.rule (members_of store)) (start_at (place_of store.slots.items k).0 +ℤ pos x) (start_at (place_of store.slots.items k).1 +ℤ pos y)

-- every place with a live cell in it or next to it has a slot
pub record IsGrown (store : TileStore) : Type 0 where
  pub closed : (k : ℕ) → 0 < k → k < length store.slots.items → IsClosed store.slots.items store.current.items k

-- the invariant of a store between steps
pub record IsKept (store : TileStore) : Type 0 where
  pub whole : IsTileStore store
  pub young : store.age ≤ age_limit
  pub within : (c : Cell) → contains (members_of store) c ≡ true → IsWithin store.age c
  pub reached : (k : ℕ) → 0 < k → k < length store.slots.items → IsReached store.age (place_of store.slots.items k)
  pub earlier : store.lacks_previous ≡ false → members_of store ≡ next store.rule (earlier_of store)
  pub earlier_closed : store.lacks_previous ≡ false → (k : ℕ) → 0 < k → k < length store.slots.items → IsClosed store.slots.items store.previous.items k
  pub settled : (k band : ℕ) → 0 < k → k < length store.slots.items → band < 8 → band_mark store.active.items k band ≡ 0 → IsSettled store k band
  pub closed : (k : ℕ) → 0 < k → k < length store.slots.items → IsIdle store.active.items k → IsClosed store.slots.items store.current.items k
  pub calm : IsCalm store.active.items → store.lacks_previous ≡ false
  pub grown : IsCalm store.active.items → IsGrown store

-- In a store that is ready for a step, each band that is not active has in `previous` what it will have next, and each
-- band that is not marked for the step after is the next generation of what `previous` shows.
pub record IsBegun (before after : TileStore) : Type 0 where
  pub same : after ≡ record before { previous = after.previous; active = after.active; next_active = after.next_active }
  pub previous_length : length after.previous.items ≡ length before.slots.items
  pub active_length : length after.active.items ≡ length before.slots.items
  pub next_active_length : length after.next_active.items ≡ length before.slots.items
  pub previous_none : tile_of after.previous.items 0 ≡ empty_tile
  pub previous_closed : (k : ℕ) → 0 < k → k < length before.slots.items → IsClosed before.slots.items after.previous.items k
  pub settled : (k x y : ℕ) → 0 < k → k < length before.slots.items → x < 64 → y < 64 → band_mark after.active.items k (y / 8) ≡ 0 →
      tile_cell (tile_of after.previous.items k) x y
      ≡ state_at (next before.rule (members_of before)) (start_at (place_of before.slots.items k).0 +ℤ pos x) (start_at (place_of before.slots.items k).1 +ℤ pos y)
  pub again : (k x y : ℕ) → 0 < k → k < length before.slots.items → x < 64 → y < 64 → band_mark after.next_active.items k (y / 8) ≡ 0 →
      tile_cell (tile_of before.current.items k) x y
      ≡ state_at (next before.rule (generation_shown before.index after.previous.items)) (start_at (place_of before.slots.items k).0 +ℤ pos x) (start_at (place_of before.slots.items k).1 +ℤ pos y)

-- the same store, but for its layout in memory
pub record IsAlike (before after : TileStore) : Type 0 where
  pub age : after.age ≡ before.age
  pub rule : after.rule ≡ before.rule
  pub lacks_previous : after.lacks_previous ≡ before.lacks_previous
  pub index : after.index.entries ≡ before.index.entries
  pub slots : after.slots.items ≡ before.slots.items
  pub current : after.current.items ≡ before.current.items
  pub previous : after.previous.items ≡ before.previous.items
  pub active : after.active.items ≡ before.active.items
  pub next_active : after.next_active.items ≡ before.next_active.items

-- there is room for one more slot
pub record HasRoom (store : TileStore) : Type 0 where
  pub slots : vec_len store.slots < vec_capacity store.slots
  pub current : vec_len store.current < vec_capacity store.current
  pub previous : vec_len store.previous < vec_capacity store.previous
  pub active : vec_len store.active < vec_capacity store.active
  pub next_active : vec_len store.next_active < vec_capacity store.next_active

abbrev pub no_bands : Bands
no_bands = record { bits = 0 }

abbrev pub all_bands : Bands
all_bands = record { bits = 255 }

-- one more slot at the end, with the empty tile twice, and all bands active
pub record IsAppended (before after : TileStore) (slot : Slot) : Type 0 where
  pub age : after.age ≡ before.age
  pub rule : after.rule ≡ before.rule
  pub lacks_previous : after.lacks_previous ≡ before.lacks_previous
  pub index : after.index ≡ before.index
  pub slots : after.slots.items ≡ before.slots.items ++ slot ∷ []
  pub current : after.current.items ≡ before.current.items ++ empty_tile ∷ []
  pub previous : after.previous.items ≡ before.previous.items ++ empty_tile ∷ []
  pub active : after.active.items ≡ before.active.items ++ all_bands ∷ []
  pub next_active : after.next_active.items ≡ before.next_active.items ++ no_bands ∷ []

-- `after` is `before`, possibly with more slots that have the empty tile twice
pub record IsExtended (before after : TileStore) : Type 0 where
  pub age : after.age ≡ before.age
  pub rule : after.rule ≡ before.rule
  pub lacks_previous : after.lacks_previous ≡ before.lacks_previous
  pub more : length before.slots.items ≤ length after.slots.items
  pub place : (k : ℕ) → k < length before.slots.items → place_of after.slots.items k ≡ place_of before.slots.items k
  pub link : (k m : ℕ) → 0 < k → k < length before.slots.items → m < 9 → link_of after.slots.items k m ≡ 0 → link_of before.slots.items k m ≡ 0
  pub current : (k : ℕ) → k < length before.slots.items → tile_of after.current.items k ≡ tile_of before.current.items k
  pub previous : (k : ℕ) → k < length before.slots.items → tile_of after.previous.items k ≡ tile_of before.previous.items k
  pub current_new : (k : ℕ) → length before.slots.items ≤ k → k < length after.slots.items → tile_of after.current.items k ≡ empty_tile
  pub previous_new : (k : ℕ) → length before.slots.items ≤ k → k < length after.slots.items → tile_of after.previous.items k ≡ empty_tile
  pub active : (k band : ℕ) → k < length after.slots.items → band < 8 → band_mark after.active.items k band ≡ 0 → (k < length before.slots.items) × (band_mark before.active.items k band ≡ 0)
  pub current_at : (place : ℤ × ℤ) → tile_of after.current.items (slot_at after.index place) ≡ tile_of before.current.items (slot_at before.index place)
  pub previous_at : (place : ℤ × ℤ) → tile_of after.previous.items (slot_at after.index place) ≡ tile_of before.previous.items (slot_at before.index place)

-- `after` is `before` with one cell of the tile of a slot made live
pub record IsSet (before after : TileStore) (slot x y : ℕ) : Type 0 where
  pub same : after ≡ record before { current = after.current }
  pub count : length after.current.items ≡ length before.current.items
  pub apart : (k : ℕ) → k ≢ slot → tile_of after.current.items k ≡ tile_of before.current.items k
  pub here : tile_cell (tile_of after.current.items slot) x y ≡ 1
  pub others : (k a b : ℕ) → a < 64 → (k ≢ slot) ⊎ ((a ≢ x) ⊎ (b ≢ y)) → tile_cell (tile_of after.current.items k) a b ≡ tile_cell (tile_of before.current.items k) a b

-- the cell in a column and a row of the tile at a place
abbrev pub cell_of : ℤ × ℤ → ℕ → ℕ → Cell
cell_of place x y = (start_at place.0 +ℤ pos x, start_at place.1 +ℤ pos y)

-- the cells of a set at a place are those of a tile
pub record IsTileAt (G : Generation) (tile : Tile) (place : ℤ × ℤ) : Type 0 where
  pub cell : (x y : ℕ) → x < 64 → y < 64 → state_at G (cell_of place x y).0 (cell_of place x y).1 ≡ tile_cell tile x y

-- two sets are equal but for the cells at a place
pub record IsSameBut (G H : Generation) (place : ℤ × ℤ) : Type 0 where
  pub cell : (p : ℤ × ℤ) (x y : ℕ) → x < 64 → y < 64 → p ≢ place → state_at H (cell_of p x y).0 (cell_of p x y).1 ≡ state_at G (cell_of p x y).0 (cell_of p x y).1

-- `after` is `before` with another tile in a slot
pub record IsShowing (before after : TileStore) (slot : ℕ) (tile : Tile) : Type 0 where
  pub same : after ≡ record before { current = after.current }
  pub count : length after.current.items ≡ length before.current.items
  pub apart : (k : ℕ) → k ≢ slot → tile_of after.current.items k ≡ tile_of before.current.items k
  pub here : tile_of after.current.items slot ≡ tile

-- each slot has the tile that it had before, or this one
pub record HasTilesOf (before after : TileStore) (tile : Tile) : Type 0 where
  pub each : (k : ℕ) → k < length after.slots.items →
      (tile_of after.current.items k ≡ tile) ⊎ ((k < length before.slots.items) × (tile_of after.current.items k ≡ tile_of before.current.items k))

-- each slot but the first has a tile with a live cell
pub record IsCompact (store : TileStore) : Type 0 where
  pub live : (k : ℕ) → 0 < k → k < length store.slots.items → IsVoid (tile_of store.current.items k) → ⊥
