-- The result of one step of the tiles of slots.
use Rattle.std.specs.Prelude.{◌≡◌, ℕ, ◌+◌, ◌*◌, ◌%◌, ◌/◌, ◌<◌, ◌≤◌, List, length, slice_index, slice_index_or}
use Rattle.std.specs.Int.{bit_at}
use Rattle.life_model.specs.Rule.{Rule}
use Rattle.life_plane.specs.declared.tile.Tile.{Tile}
use Rattle.life_plane.specs.Area.{Nine, tile_cell, next_in_area}
use Rattle.life_plane.specs.Changes.{IsSameCell}
use Rattle.life_slots.specs.declared.bands.Bands.{Bands}
use Rattle.life_slots.specs.declared.slot.Slot.{Slot}
use Rattle.life_slots.specs.Slots.{links_of, link_of, tile_of, nine_linked}
use Rattle.life_slots.specs.Rims.{IsNextToBand}

-- the marked bands of a slot
abbrev pub bands_of : List Bands → ℕ → Bands
bands_of marks k = slice_index_or marks k (record { bits = 0 })

-- 1 where a band of a slot is marked, 0 where not
abbrev pub band_mark : List Bands → ℕ → ℕ → ℕ
band_mark marks k band = bit_at (bands_of marks k).bits band

-- no band of a slot is marked
abbrev pub IsIdle : List Bands → ℕ → Type 0
IsIdle marks k = (band : ℕ) → band < 8 → band_mark marks k band ≡ 0

-- no band of slot 0, which is every place without a slot, is marked
abbrev pub IsCalm : List Bands → Type 0
IsCalm marks = IsIdle marks 0

-- each band that a live cell of the tile of a slot from 1 to n - 1 is in or next to is marked
pub record IsMarkedNear (slots : List Slot) (tiles : List Tile) (marks : List Bands) (n : ℕ) : Type 0 where
  pub near : (k m band x y : ℕ) → 0 < k → k < n → m < 9 → band < 8 → x < 64 → y < 64 →
      IsNextToBand (record { direction = m; band = band; column = x; row = y }) → band_mark marks (link_of slots k m) band ≡ 0 →
      tile_cell (tile_of tiles k) x y ≡ 0

-- each link of each slot but the first is a slot
pub record IsLinked (slots : List Slot) : Type 0 where
  pub inside : (k m : ℕ) → 0 < k → k < length slots → m < 9 → link_of slots k m < length slots

-- the word of the bands of the tiles on one side, a band of the tile in the middle, and that tile before and after it changes
pub record SideOfChange : Type 0 where
  pub side : ℕ
  pub word : ℕ
  pub index : ℕ
  pub before : Tile
  pub after : Tile

-- each band of the tiles on one side that a changed cell, in a band of the tile in the middle, is in or next to has its bit set
pub record IsTouchedBeside (change : SideOfChange) : Type 0 where
  pub same : (m band x y : ℕ) → m < 9 → m % 3 ≡ change.side → band < 8 → x < 64 → y < 8 →
      IsNextToBand (record { direction = m; band = band; column = x; row = 8 * change.index + y }) →
      bit_at change.word (8 * (m / 3) + band) ≡ 0 → IsSameCell change.before change.after x (8 * change.index + y)

-- the bit of a band of the tile in a direction, in the words of three columns
abbrev pub touch_of : List ℕ → ℕ → ℕ → ℕ
touch_of columns m band = bit_at (slice_index columns (m % 3)) (8 * (m / 3) + band)

-- each band of all nine tiles that a changed cell, in a band of the tile in the middle, is in or next to has its bit set
pub record IsTouchedAround (columns : List ℕ) (index : ℕ) (old new : Tile) : Type 0 where
  pub same : (m band x y : ℕ) → m < 9 → band < 8 → x < 64 → y < 8 →
      IsNextToBand (record { direction = m; band = band; column = x; row = 8 * index + y }) → touch_of columns m band ≡ 0 →
      IsSameCell old new x (8 * index + y)

-- The nine tiles now, the active bands of the middle one, and the rule. The tile in the middle before and after, the words of
-- three columns of bands, and the number of bands that are done.
pub record TileWork : Type 0 where
  pub nine : Nine
  pub active : Bands
  pub rule : Rule
  pub before : Tile
  pub after : Tile
  pub columns : List ℕ
  pub done : ℕ

-- Of the bands of the tile in the middle that are done, the active ones are computed, and all others are unchanged. Each band
-- that a changed cell is in or next to has its bit set.
pub record IsTileWorkedOut (work : TileWork) : Type 0 where
  pub next : (x y : ℕ) → x < 64 → y < 64 → y / 8 < work.done → bit_at work.active.bits (y / 8) ≡ 1 →
      tile_cell work.after x y ≡ next_in_area work.rule work.nine x y
  pub idle : (x y : ℕ) → x < 64 → y < 64 → bit_at work.active.bits (y / 8) ≡ 0 → tile_cell work.after x y ≡ tile_cell work.before x y
  pub later : (x y : ℕ) → x < 64 → y < 64 → work.done ≤ y / 8 → tile_cell work.after x y ≡ tile_cell work.before x y
  pub around : (m band x y : ℕ) → m < 9 → band < 8 → x < 64 → y < 64 → y / 8 < work.done →
      IsNextToBand (record { direction = m; band = band; column = x; row = y }) → touch_of work.columns m band ≡ 0 →
      tile_cell work.after x y ≡ tile_cell work.before x y

-- The tiles now, the active bands of each slot, and the rule. The tiles before and after, the marks before and after, and the
-- number of slots that are done, slot 0 among these.
pub record SlotsWork : Type 0 where
  pub current : List Tile
  pub active : List Bands
  pub rule : Rule
  pub before : List Tile
  pub after : List Tile
  pub marks_before : List Bands
  pub marks_after : List Bands
  pub done : ℕ

-- Of the bands of the slots that are done, except slot 0, the active ones are computed, and all others are unchanged. Each band
-- that a changed cell is in or next to is marked.
pub record IsWorkedOut (slots : List Slot) (work : SlotsWork) : Type 0 where
  pub length_after : length work.after ≡ length work.before
  pub length_marked : length work.marks_after ≡ length work.marks_before
  pub next : (k x y : ℕ) → 0 < k → k < work.done → x < 64 → y < 64 → band_mark work.active k (y / 8) ≡ 1 →
      tile_cell (tile_of work.after k) x y ≡ next_in_area work.rule (nine_linked work.current (links_of slots k)) x y
  pub idle : (k x y : ℕ) → x < 64 → y < 64 → band_mark work.active k (y / 8) ≡ 0 →
      tile_cell (tile_of work.after k) x y ≡ tile_cell (tile_of work.before k) x y
  pub first : tile_of work.after 0 ≡ tile_of work.before 0
  pub later : (k : ℕ) → work.done ≤ k → tile_of work.after k ≡ tile_of work.before k
  pub around : (k m band x y : ℕ) → 0 < k → k < work.done → m < 9 → band < 8 → x < 64 → y < 64 →
      IsNextToBand (record { direction = m; band = band; column = x; row = y }) → band_mark work.marks_after (link_of slots k m) band ≡ 0 →
      tile_cell (tile_of work.after k) x y ≡ tile_cell (tile_of work.before k) x y
  pub kept : (k band : ℕ) → band_mark work.marks_before k band ≡ 1 → band_mark work.marks_after k band ≡ 1
