-- Cells put into a fresh store.
use Rattle.std.proofs.Common.{◌≡◌, ◌≢◌, ℕ, ℤ, pos, ◌+ℤ◌, ◌<◌, ◌≤◌, ◌⊎◌, inl, inr, ⊎_elim, true, false, ◌||◌, List, [], ◌∷◌, Some, None, length, sym, subst, ap, ◌∙◌, arith}
use Rattle.std.specs.Map.{lookup}
use Rattle.std.specs.BTreeMap.{IsOrdered, get, is_at}
use Rattle.std.proofs.lemmas.Bool.{cases_eq}
use Rattle.life_model.specs.Cell.{Cell, same_cell}
use Rattle.life_model.specs.Generation.{Generation, contains, insert, empty, from_list}
use Rattle.life_model.proofs.Cells.{same_cell-is}
use Rattle.life_model.proofs.Generations.{contains-insert, contains-empty}
use Rattle.life_cells.specs.Limits.{IsWithin, age_limit}
use Rattle.life_plane.specs.declared.tile.Tile.{Tile}
use Rattle.life_plane.specs.Flags.{as_bit}
use Rattle.life_plane.specs.Area.{tile_cell}
use Rattle.life_slots.specs.Cells.{tiles_cells, state_at}
use Rattle.life_slots.specs.Places.{place_cmp, start_at}
use Rattle.life_slots.proofs.Orders.{true_or_false}
use Rattle.life_slots.proofs.Inserted.{inserted_cases}
use Rattle.life_slots.specs.declared.bands.Bands.{Bands}
use Rattle.life_slots.specs.declared.slot.Slot.{Slot}
use Rattle.life_slots.specs.Slots.{slot_at, place_of, tile_of, empty_tile, placed_tiles, generation_shown, IsReached}
use Rattle.life_slots.specs.Work.{band_mark, IsCalm}
use Rattle.life_slots.specs.Indexes.{IsSlotOf}
use Rattle.life_slots.proofs.Bits.{bit_cases}
use Rattle.life_slots.proofs.Shown.{shown_state, same_states}
use Rattle.life_slots.proofs.Places.{slot_cases, slot_of_place}
use Rattle.life_tile.specs.declared.tile_store.TileStore.{TileStore}
use Rattle.life_tile.specs.TileStores.{IsTileStore, members_of, IsKept, all_bands, no_bands}

-- a fresh store keeps little
pub kept_fresh : (s : TileStore) → IsTileStore s → s.age ≤ age_limit → ((c : Cell) → contains (members_of s) c ≡ true → IsWithin s.age c) →
    ((k : ℕ) → 0 < k → k < length s.slots.items → IsReached s.age (place_of s.slots.items k)) → s.lacks_previous ≡ true →
    ((k band : ℕ) → 0 < k → k < length s.slots.items → band < 8 → band_mark s.active.items k band ≡ 1) → (IsCalm s.active.items → ⊥) → IsKept s
kept_fresh s whole young within reached lacks_previous busy stirred = record {
  whole = whole;
  young = young;
  within = within;
  reached = reached;
  earlier = λ known. (let never : true ≡ false = sym lacks_previous ∙ known in absurd (cc));
  earlier_closed = λ known. (let never : true ≡ false = sym lacks_previous ∙ known in absurd (cc));
  settled = λ k band later inside small clear. (let never : 1 ≡ 0 = sym (busy k band later inside small) ∙ clear in absurd (omega arith));
  closed = λ k later inside idle. (let never : 1 ≡ 0 = sym (busy k 0 later inside (omega arith)) ∙ idle 0 (omega arith) in absurd (omega arith));
  calm = λ calm. absurd (stirred calm);
  grown = λ calm. absurd (stirred calm);
}

pub busy_fresh : (s : TileStore) → IsKept s → s.lacks_previous ≡ true → (k band : ℕ) → 0 < k → k < length s.slots.items → band < 8 → band_mark s.active.items k band ≡ 1
busy_fresh s kept lacks_previous k band later inside small =
    ⊎_elim (λ busy. busy)
    (λ (clear : band_mark s.active.items k band ≡ 0). let never : true ≡ false = sym lacks_previous ∙ (kept.settled k band later inside small clear).known in absurd (cc))
    (bit_cases _ band)

pub stirred_fresh : (s : TileStore) → IsKept s → s.lacks_previous ≡ true → IsCalm s.active.items → ⊥
stirred_fresh s kept lacks_previous calm = let never : true ≡ false = sym lacks_previous ∙ kept.calm calm in absurd (cc)

different : (k j : ℤ × ℤ) → same_cell k j ≡ false → k ≡ j → ⊥
different k j other same = let never : true ≡ false = sym ((same_cell-is k j).1 same) ∙ other in absurd (cc)

module _ (s u : TileStore) (k x y : ℕ) (place : ℤ × ℤ) (cell : Cell) (kept : IsKept s) (lacks_previous : s.lacks_previous ≡ true) (slot : IsSlotOf s.slots.items place k) (wide : x < 64) (high : y < 64)
    (cell_is : cell ≡ (start_at place.0 +ℤ pos x, start_at place.1 +ℤ pos y)) (within : IsWithin s.age cell)
    (count : length u.current.items ≡ length s.current.items) (here : tile_cell (tile_of u.current.items k) x y ≡ 1)
    (others : (j a b : ℕ) → a < 64 → (j ≢ k) ⊎ ((a ≢ x) ⊎ (b ≢ y)) → tile_cell (tile_of u.current.items j) a b ≡ tile_cell (tile_of s.current.items j) a b)
    (none : tile_of u.current.items 0 ≡ empty_tile) where
  at_slot : slot_at s.index place ≡ k
  at_slot = ap (slot_at s.index) (sym slot.place) ∙ slot_of_place s.index s.slots.items kept.whole.indexed k slot.later slot.inside

  live_now : state_at (generation_shown s.index u.current.items) (start_at place.0 +ℤ pos x) (start_at place.1 +ℤ pos y) ≡ 1
  live_now =
      shown_state s.index u.current.items kept.whole.indexed.ordered none place.0 place.1 x y wide high
      ∙ ap (λ j. tile_cell (tile_of u.current.items j) x y) at_slot ∙ here

  same_else : (column row : ℤ) (a b : ℕ) → a < 64 → b < 64 →
      (◌≡◌ {A = ℤ × ℤ} (start_at column +ℤ pos a, start_at row +ℤ pos b) cell → ⊥) →
      tile_cell (tile_of u.current.items (slot_at s.index (column, row))) a b ≡ tile_cell (tile_of s.current.items (slot_at s.index (column, row))) a b
  same_else column row a b a_wide b_high apart =
      others (slot_at s.index (column, row)) a b a_wide
      (⊎_elim
      (λ (same_slot : slot_at s.index (column, row) ≡ k).
      inr
      (⊎_elim
      (λ (same_x : a ≡ x).
      inr (λ (same_y : b ≡ y).
      ⊎_elim
      (λ absent. let zero : k ≡ 0 = sym same_slot ∙ absent in let later = slot.later in omega arith)
      (λ there.
      let place_is : place ≡ (column, row) = sym slot.place ∙ ap (place_of s.slots.items) (sym same_slot) ∙ there.place in
      apart
      (sym
      (cell_is ∙ (λ i. (start_at (place_is i).0 +ℤ pos (sym same_x i), start_at (place_is i).1 +ℤ pos (sym same_y i))))))
      (slot_cases s.index s.slots.items kept.whole.indexed (column, row))))
      (λ other. inl other)
      (cases_eq a x)))
      (λ other. inl other)
      (cases_eq (slot_at s.index (column, row)) k))

  pub members_put : generation_shown s.index u.current.items ≡ insert (members_of s) cell
  members_put =
      same_states (generation_shown s.index u.current.items) (insert (members_of s) cell)
      (λ column row a b a_wide b_high.
      let q : ℤ × ℤ = (start_at column +ℤ pos a, start_at row +ℤ pos b) in
      ⊎_elim
      (λ (same : same_cell (start_at column +ℤ pos a, start_at row +ℤ pos b) cell ≡ true).
      let q_is : (start_at column +ℤ pos a, start_at row +ℤ pos b) ≡ cell = (same_cell-is (start_at column +ℤ pos a, start_at row +ℤ pos b) cell).0 same in
      ap (λ (j : ℤ × ℤ). state_at (generation_shown s.index u.current.items) j.0 j.1) (q_is ∙ cell_is) ∙ live_now
      ∙ sym (ap as_bit (contains-insert (members_of s) cell (start_at column +ℤ pos a, start_at row +ℤ pos b) ∙ ap (λ t. t || contains (members_of s) (start_at column +ℤ pos a, start_at row +ℤ pos b)) same)))
      (λ (other : same_cell (start_at column +ℤ pos a, start_at row +ℤ pos b) cell ≡ false).
      shown_state s.index u.current.items kept.whole.indexed.ordered none column row a b a_wide b_high
      ∙ same_else column row a b a_wide b_high (different _ _ other)
      ∙ sym (shown_state s.index s.current.items kept.whole.indexed.ordered kept.whole.current_none column row a b a_wide b_high)
      ∙ sym (ap as_bit (contains-insert (members_of s) cell (start_at column +ℤ pos a, start_at row +ℤ pos b) ∙ ap (λ t. t || contains (members_of s) (start_at column +ℤ pos a, start_at row +ℤ pos b)) other)))
      (true_or_false (same_cell (start_at column +ℤ pos a, start_at row +ℤ pos b) cell)))

  pub kept_put : IsKept (record s { current = u.current })
  kept_put =
      kept_fresh (record s { current = u.current })
      (record {
        indexed = kept.whole.indexed;
        current_length = count ∙ kept.whole.current_length;
        previous_length = kept.whole.previous_length;
        active_length = kept.whole.active_length;
        next_active_length = kept.whole.next_active_length;
        current_none = none;
        previous_none = kept.whole.previous_none;
      })
      kept.young
      (λ c has.
      ⊎_elim
      (λ same. subst (IsWithin s.age) (sym same) within)
      (λ old. kept.within c old)
      (inserted_cases (members_of s) cell c (sym (ap (λ (G : Generation). contains G c) members_put) ∙ has)))
      kept.reached lacks_previous (busy_fresh s kept lacks_previous) (stirred_fresh s kept lacks_previous)

-- the store with slot 0 alone
module _ (s : TileStore) (slot : Slot) (none : s.index.entries ≡ []) (ordered : IsOrdered place_cmp s.index) (slots : s.slots.items ≡ slot ∷ [])
    (current : s.current.items ≡ empty_tile ∷ []) (previous : s.previous.items ≡ empty_tile ∷ []) (active : s.active.items ≡ all_bands ∷ []) (marks : s.next_active.items ≡ no_bands ∷ [])
    (young : s.age ≤ age_limit) (lacks_previous : s.lacks_previous ≡ true) where
  not_found : (p : ℤ × ℤ) (k : ℕ) → get place_cmp s.index p ≡ Some k → ⊥
  not_found p k is =
      let gone : get place_cmp s.index p ≡ None = ap (lookup (is_at (place_cmp p))) none in
      let never : None ≡ Some k = sym gone ∙ is in
      absurd (cc)

  one : length s.slots.items ≡ 1
  one = ap (λ (ss : List Slot). length ss) slots

  pub members_new : members_of s ≡ empty
  unfolding generation_shown tiles_cells
  members_new = ap (λ (es : List ((ℤ × ℤ) × ℕ)). from_list (tiles_cells (placed_tiles es s.current.items))) none

  pub kept_new : IsKept s
  kept_new =
      let count : length s.slots.items ≡ 1 = one in
      kept_fresh s
      (record {
        indexed = record {
          ordered = ordered;
          some = omega arith;
          indexed = λ k later inside. absurd (omega arith);
          later = λ p k is. absurd (not_found p k is);
          inside = λ p k is. absurd (not_found p k is);
          placed = λ p k is. absurd (not_found p k is);
          linked = λ k m later inside. absurd (omega arith);
        };
        current_length = ap (λ (ts : List Tile). length ts) current ∙ sym one;
        previous_length = ap (λ (ts : List Tile). length ts) previous ∙ sym one;
        active_length = ap (λ (bs : List Bands). length bs) active ∙ sym one;
        next_active_length = ap (λ (bs : List Bands). length bs) marks ∙ sym one;
        current_none = ap (λ (ts : List Tile). tile_of ts 0) current;
        previous_none = ap (λ (ts : List Tile). tile_of ts 0) previous;
      })
      young
      (λ c has.
      let never : true ≡ false = sym has ∙ ap (λ (G : Generation). contains G c) members_new ∙ contains-empty c in
      absurd (cc))
      (λ k later inside. absurd (omega arith))
      lacks_previous
      (λ k band later inside. absurd (omega arith))
      (λ calm. let never : 1 ≡ 0 = sym (ap (λ (bs : List Bands). band_mark bs 0 0) active) ∙ calm 0 (omega arith) in omega arith)
