-- Slots: the place of the tile of each, and the slots around it.
use Rattle.std.specs.Prelude.{ℕ, ℤ, pos, ◌+ℤ◌, ◌-ℤ◌, ◌%◌, ◌/◌, ◌+◌, ◌≤ℤ◌, neg_ℤ, List, [], ◌∷◌, slice_index, slice_index_or, replicate}
use Rattle.std.specs.Option.{unwrap_or}
use Rattle.std.specs.BTreeMap.{BTreeMap, get}
use Rattle.life_model.specs.Generation.{Generation, from_list}
use Rattle.life_cells.specs.Limits.{place_limit}
use Rattle.life_plane.specs.declared.tile.Tile.{Tile}
use Rattle.life_plane.specs.Area.{Nine}
use Rattle.life_slots.specs.Cells.{tiles_cells}
use Rattle.life_slots.specs.Places.{place_cmp, start_at}
use Rattle.life_slots.specs.declared.slot.Slot.{Slot}

-- the slots of places
abbrev pub Index : Type 0
Index = BTreeMap (ℤ × ℤ) ℕ

-- the slot of a place, 0 if it has none
abbrev pub slot_at : Index → ℤ × ℤ → ℕ
slot_at index place = unwrap_or (get place_cmp index place) 0

-- The place in a direction from a place. The nine directions are counted row by row from 0 in the north west, so 4 is the
-- place itself and 8 - m is opposite to m.
abbrev pub neighbour_at : ℤ × ℤ → ℕ → ℤ × ℤ
neighbour_at place m = ((place.0 +ℤ pos (m % 3)) -ℤ pos 1, (place.1 +ℤ pos (m / 3)) -ℤ pos 1)

abbrev pub no_slot : Slot
no_slot = record { place = (pos 0, pos 0); links = [] }

abbrev pub place_of : List Slot → ℕ → ℤ × ℤ
place_of slots k = (slice_index_or slots k no_slot).place

abbrev pub links_of : List Slot → ℕ → List ℕ
links_of slots k = (slice_index_or slots k no_slot).links

-- the slot in a direction from a slot, 0 if there is none
abbrev pub link_of : List Slot → ℕ → ℕ → ℕ
link_of slots k m = slice_index (links_of slots k) m

-- the tile without a live cell
abbrev pub empty_tile : Tile
empty_tile = record { rows = replicate 64 0 }

abbrev pub tile_of : List Tile → ℕ → Tile
tile_of tiles k = slice_index_or tiles k (record { rows = [] })

-- the tiles of nine slots
abbrev pub nine_linked : List Tile → List ℕ → Nine
nine_linked tiles links = record {
  north_west = tile_of tiles (slice_index links 0);
  north = tile_of tiles (slice_index links 1);
  north_east = tile_of tiles (slice_index links 2);
  west = tile_of tiles (slice_index links 3);
  here = tile_of tiles (slice_index links 4);
  east = tile_of tiles (slice_index links 5);
  south_west = tile_of tiles (slice_index links 6);
  south = tile_of tiles (slice_index links 7);
  south_east = tile_of tiles (slice_index links 8);
}

-- the entries of an index, each with the tile of its slot
abbrev pub placed_tiles : List ((ℤ × ℤ) × ℕ) → List Tile → List ((ℤ × ℤ) × Tile)
placed_tiles [] tiles = []
placed_tiles (e ∷ es) tiles = (e.0, tile_of tiles e.1) ∷ placed_tiles es tiles

-- the generation that the tiles at their places show
unfoldable pub generation_shown : Index → List Tile → Generation
generation_shown index tiles = from_list (tiles_cells (placed_tiles index.entries tiles))

-- the places of tiles at age a: where a cell of that age may be, or next to it
pub record IsReached (a : ℕ) (place : ℤ × ℤ) : Type 0 where
  pub west : neg_ℤ (pos (a + 64)) ≤ℤ start_at place.0
  pub east : start_at place.0 ≤ℤ pos (place_limit + a)
  pub north : neg_ℤ (pos (a + 64)) ≤ℤ start_at place.1
  pub south : start_at place.1 ≤ℤ pos (place_limit + a)
