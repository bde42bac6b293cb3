-- How many tiles have a live cell; and a store without other tiles has no slot yet for a place that isn't copied.
use Rattle.std.proofs.Common.{◌≡◌, ℕ, zero, suc, ℤ, pos, ◌+ℤ◌, ◌+◌, ◌-◌, ◌<◌, ◌≤◌, ◌==◌, ⊎_elim, true, false, cond, List, [], ◌∷◌, ◌++◌, length, take, drop, nat_lt, slice_index, refl, sym, subst, ap, ◌∙◌, arith, true≢false}
use Rattle.std.specs.Int.{bit_at}
use Rattle.std.specs.List.{fold, sum_by}
use Rattle.std.proofs.lemmas.List.{take_all}
use Rattle.std.proofs.lemmas.Nat.Bits.{bit_at-lt}
use Rattle.life_model.specs.Cell.{Cell}
use Rattle.life_plane.specs.declared.tile.Tile.{Tile}
use Rattle.life_plane.specs.Area.{tile_cell}
use Rattle.life_slots.specs.Cells.{row_cells, block_cells, has_cell, tile_count}
use Rattle.life_slots.specs.Ends.{IsVoid}
use Rattle.life_slots.specs.Slots.{slot_at, place_of, tile_of, empty_tile}
use Rattle.life_slots.specs.Indexes.{IsSlotOf}
use Rattle.life_slots.proofs.Members.{Has, has_none, row_in, block_in}
use Rattle.life_slots.proofs.Orders.{true_or_false}
use Rattle.life_slots.proofs.Splits.{not_one}
use Rattle.life_slots.proofs.Shown.{empty_cell, shown_state}
use Rattle.life_slots.proofs.Places.{slot_cases, slot_of_place}
use Rattle.life_tile.specs.declared.tile_store.TileStore.{TileStore}
use Rattle.life_tile.specs.TileStores.{IsCompact, IsKept, members_of}
use Rattle.life_tile.proofs.Copied.{IsCopied}

row_dead : (left y : ℤ) (word n : ℕ) → ((x : ℕ) → x < n → bit_at word x ≡ 0) → row_cells left y word n ≡ []
unfolding row_cells
row_dead left y word zero dead = refl
row_dead left y word (suc n) dead =
    ap (λ (b : ℕ). cond (b == 1) ((left +ℤ pos n, y) ∷ row_cells left y word n) (row_cells left y word n)) (dead n (omega arith))
    ∙ row_dead left y word n (λ x less. dead x (omega arith))

block_dead : (left top : ℤ) (rows : List ℕ) (n : ℕ) → ((x y : ℕ) → x < 64 → y < n → bit_at (slice_index rows y) x ≡ 0) → block_cells left top rows n ≡ []
unfolding block_cells
block_dead left top rows zero dead = refl
block_dead left top rows (suc n) dead =
    (λ i. row_dead left (top +ℤ pos n) (slice_index rows n) 64 (λ x wide. dead x n wide (omega arith)) i
    ++ block_dead left top rows n (λ x y wide less. dead x y wide (omega arith)) i)

pub void_tile : (tile : Tile) → IsVoid tile → has_cell tile ≡ false
void_tile tile void = ap (λ (cs : List Cell). nat_lt 0 (length cs)) (block_dead (pos 0) (pos 0) tile.rows 64 void.dead)

pub void_count : (tile : Tile) → IsVoid tile → tile_count tile ≡ 0
void_count tile void = ap (λ (cs : List Cell). length cs) (block_dead (pos 0) (pos 0) tile.rows 64 void.dead)

none_of : (cs : List Cell) → nat_lt 0 (length cs) ≡ false → cs ≡ []
none_of [] none = refl
none_of (c ∷ cs) none = let some : nat_lt 0 (suc (length cs)) ≡ true = grind arith in absurd (true≢false (sym some ∙ none))

pub live_tile : (tile : Tile) → (IsVoid tile → ⊥) → has_cell tile ≡ true
live_tile tile live =
    ⊎_elim (λ some. some)
    (λ (lacks : has_cell tile ≡ false).
    let none : block_cells (pos 0) (pos 0) tile.rows 64 ≡ [] = none_of (block_cells (pos 0) (pos 0) tile.rows 64) lacks in
    absurd
    (live
    (record {
      dead = λ x y wide high.
          not_one (tile_cell tile x y) (bit_at-lt (slice_index tile.rows y) x)
          (λ one.
          has_none (pos 0 +ℤ pos x, pos 0 +ℤ pos y)
          (subst (λ (cs : List Cell). Has cs (pos 0 +ℤ pos x, pos 0 +ℤ pos y)) none
          (block_in (pos 0) (pos 0) tile.rows 64 y (pos 0 +ℤ pos x, pos 0 +ℤ pos y) high
          (row_in (pos 0) (pos 0 +ℤ pos y) (slice_index tile.rows y) 64 x wide one))));
    })))
    (true_or_false (has_cell tile))

pub empty_is_void : (tile : Tile) → tile ≡ empty_tile → IsVoid tile
empty_is_void tile is = record { dead = λ x y wide high. ap (λ (t : Tile). tile_cell t x y) is ∙ empty_cell x y }

-- the first tile has no live cell, so the others have them all
pub sum_past_first : (tiles : List Tile) → tile_of tiles 0 ≡ empty_tile → sum_by tile_count (take (length tiles - 1) (drop 1 tiles)) ≡ sum_by tile_count tiles
sum_past_first [] none = refl
sum_past_first (tile ∷ rest) none =
    let all : length rest ≤ length (tile ∷ rest) - 1 = omega arith in
    ap (sum_by tile_count) (take_all (length (tile ∷ rest) - 1) rest all)
    ∙ ap (λ (n : ℕ). fold (λ a t. a + tile_count t) (0 + n) rest) (sym (void_count tile (empty_is_void tile none)))

pub compact_one : (store : TileStore) → length store.slots.items ≡ 1 → IsCompact store
compact_one store one = record { live = λ k later inside. absurd (omega arith) }

pub absent_yet : (s store : TileStore) (n : ℕ) → IsKept s → IsKept store → IsCompact store → 0 < n → n < length s.slots.items → IsCopied s (members_of store) n →
    slot_at store.index (place_of s.slots.items n) ≡ 0
absent_yet s store n kept_s kept compact later inside copied =
    let p : ℤ × ℤ = place_of s.slots.items n in
    let slot_is : slot_at s.index (place_of s.slots.items n) ≡ n = slot_of_place s.index s.slots.items kept_s.whole.indexed n later inside in
    let from : n ≤ slot_at s.index (place_of s.slots.items n) = omega arith in
    ⊎_elim (λ absent. absent)
    (λ (there : IsSlotOf store.slots.items (place_of s.slots.items n) (slot_at store.index (place_of s.slots.items n))).
    absurd
    (compact.live (slot_at store.index (place_of s.slots.items n)) there.later there.inside
    (record {
      dead = λ x y wide high.
          sym (shown_state store.index store.current.items kept.whole.indexed.ordered kept.whole.current_none (place_of s.slots.items n).0 (place_of s.slots.items n).1 x y wide high)
          ∙ copied.rest (place_of s.slots.items n) x y wide high from;
    })))
    (slot_cases store.index store.slots.items kept.whole.indexed (place_of s.slots.items n))
