-- The invariant of an index of slots and of the links between them.
use Rattle.std.specs.Prelude.{◌≡◌, ℕ, ℤ, ◌<◌, List, Some, length}
use Rattle.std.specs.BTreeMap.{IsOrdered, get}
use Rattle.life_plane.specs.declared.tile.Tile.{Tile}
use Rattle.life_slots.specs.Places.{place_cmp}
use Rattle.life_slots.specs.declared.slot.Slot.{Slot}
use Rattle.life_slots.specs.Slots.{Index, slot_at, neighbour_at, place_of, link_of, tile_of}
use Rattle.life_slots.specs.Rims.{IsStill}

-- The index has each slot but the first at its place and no other, and each slot's links are the slots around its place.
pub record IsIndexed (index : Index) (slots : List Slot) : Type 0 where
  pub ordered : IsOrdered place_cmp index
  pub some : 0 < length slots
  pub indexed : (k : ℕ) → 0 < k → k < length slots → get place_cmp index (place_of slots k) ≡ Some k
  pub later : (place : ℤ × ℤ) (k : ℕ) → get place_cmp index place ≡ Some k → 0 < k
  pub inside : (place : ℤ × ℤ) (k : ℕ) → get place_cmp index place ≡ Some k → k < length slots
  pub placed : (place : ℤ × ℤ) (k : ℕ) → get place_cmp index place ≡ Some k → place_of slots k ≡ place
  pub linked : (k m : ℕ) → 0 < k → k < length slots → m < 9 → link_of slots k m ≡ slot_at index (neighbour_at (place_of slots k) m)

-- a place has this slot
pub record IsSlotOf (slots : List Slot) (p : ℤ × ℤ) (k : ℕ) : Type 0 where
  pub later : 0 < k
  pub inside : k < length slots
  pub place : place_of slots k ≡ p

-- where a slot has no neighbour, its tile has no live cell at that edge
pub record IsClosed (slots : List Slot) (tiles : List Tile) (k : ℕ) : Type 0 where
  pub closed : (m : ℕ) → m < 9 → link_of slots k m ≡ 0 → IsStill (tile_of tiles k) m
