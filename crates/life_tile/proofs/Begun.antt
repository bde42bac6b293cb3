-- A store that is ready for a step.
use Rattle.std.proofs.Common.{◌≡◌, ℕ, ℤ, pos, ◌+ℤ◌, ◌-ℤ◌, ◌+◌, ◌*◌, ◌/◌, ◌<◌, ◌≤◌, ◌≤ℤ◌, ⊎_elim, false, List, length, refl, sym, subst, ap, ◌∙◌, arith}
use Rattle.std.proofs.lemmas.Int.{ints}
use Rattle.life_model.specs.Generation.{Generation}
use Rattle.life_model.specs.Evolution.{next}
use Rattle.life_plane.specs.declared.tile.Tile.{Tile}
use Rattle.life_plane.specs.Area.{tile_cell}
use Rattle.life_slots.specs.Places.{IsBeside, start_at}
use Rattle.life_slots.specs.declared.bands.Bands.{Bands}
use Rattle.life_slots.specs.declared.slot.Slot.{Slot}
use Rattle.life_slots.specs.Slots.{Index, slot_at, place_of, tile_of, empty_tile, generation_shown}
use Rattle.life_slots.specs.Work.{band_mark, IsMarkedNear}
use Rattle.life_slots.specs.Cells.{state_at}
use Rattle.life_slots.specs.Indexes.{IsIndexed, IsSlotOf, IsClosed}
use Rattle.life_slots.proofs.Splits.{Split, split}
use Rattle.life_slots.proofs.Shown.{empty_cell, shown_state}
use Rattle.life_slots.proofs.Places.{slot_cases, state_absent, state_of_slot, dead_next}
use Rattle.life_slots.proofs.Steps.{unchanged}
use Rattle.life_tile.specs.declared.tile_store.TileStore.{TileStore}
use Rattle.life_tile.specs.TileStores.{IsBegun, IsKept, members_of}
use Rattle.life_tile.proofs.Kept.{empty_still}

module _ (index : Index) (slots : List Slot) (whole : IsIndexed index slots) (tiles : List Tile) (none : tile_of tiles 0 ≡ empty_tile) where
  -- no cell is live if all tiles are empty
  empty_state : ((k : ℕ) → k < length slots → tile_of tiles k ≡ empty_tile) → (X Y : ℤ) → state_at (generation_shown index tiles) X Y ≡ 0
  empty_state empties X Y =
      let s : Split X = split X in
      let t : Split Y = split Y in
      (λ i. state_at (generation_shown index tiles) (s.is i) (t.is i))
      ∙ ⊎_elim
      (λ absent. state_absent index slots whole tiles none (s.quotient, t.quotient) s.remainder t.remainder s.small t.small absent)
      (λ (there : IsSlotOf slots (s.quotient, t.quotient) (slot_at index (s.quotient, t.quotient))).
      shown_state index tiles whole.ordered none s.quotient t.quotient s.remainder t.remainder s.small t.small
      ∙ ap (λ (tile : Tile). tile_cell tile s.remainder t.remainder) (empties (slot_at index (s.quotient, t.quotient)) there.inside)
      ∙ empty_cell s.remainder t.remainder)
      (slot_cases index slots whole (s.quotient, t.quotient))

module _ (s b : TileStore) (kept : IsKept s) (next_active_length : length b.next_active.items ≡ length s.slots.items) where
  pub begun_going : s.lacks_previous ≡ false → b ≡ record s { next_active = b.next_active } → IsBegun s b
  begun_going going is =
      let previous_is : b.previous.items ≡ s.previous.items = λ i. (is i).previous.items in
      let active_is : b.active.items ≡ s.active.items = λ i. (is i).active.items in
      record {
        same = is ∙ (λ i. record s { previous = (sym is i).previous; active = (sym is i).active; next_active = b.next_active });
        previous_length = ap (λ (ts : List Tile). length ts) previous_is ∙ kept.whole.previous_length;
        active_length = ap (λ (bs : List Bands). length bs) active_is ∙ kept.whole.active_length;
        next_active_length = next_active_length;
        previous_none = ap (λ (ts : List Tile). tile_of ts 0) previous_is ∙ kept.whole.previous_none;
        previous_closed = λ k later inside. subst (λ (ts : List Tile). IsClosed s.slots.items ts k) (sym previous_is) (kept.earlier_closed going k later inside);
        settled = λ k x y later inside wide high clear.
            ap (λ (ts : List Tile). tile_cell (tile_of ts k) x y) previous_is
            ∙ (kept.settled k (y / 8) later inside (omega arith) (sym (ap (λ (bs : List Bands). band_mark bs k (y / 8)) active_is) ∙ clear)).cell x y wide high refl;
        again = λ k x y later inside wide high clear.
            sym (state_of_slot s.index s.slots.items kept.whole.indexed s.current.items kept.whole.current_none k later inside x y wide high)
            ∙ ap (λ (G : Generation). state_at G (start_at (place_of s.slots.items k).0 +ℤ pos x) (start_at (place_of s.slots.items k).1 +ℤ pos y))
            (kept.earlier going ∙ ap (λ (ts : List Tile). next s.rule (generation_shown s.index ts)) (sym previous_is));
      }

  pub begun_fresh : b ≡ record s { previous = b.previous; active = b.active; next_active = b.next_active } → length b.previous.items ≡ length s.slots.items → b.active.items ≡ b.next_active.items →
      ((k : ℕ) → k < length s.slots.items → tile_of b.previous.items k ≡ empty_tile) →
      IsMarkedNear s.slots.items s.current.items b.next_active.items (length s.slots.items) → IsBegun s b
  begun_fresh is previous_length active_is empties marked =
      let none : tile_of b.previous.items 0 ≡ empty_tile = empties 0 kept.whole.indexed.some in
      let dead : (X Y : ℤ) → state_at (generation_shown s.index b.previous.items) X Y ≡ 0 = empty_state s.index s.slots.items kept.whole.indexed b.previous.items none empties in
      let bare : (k band : ℕ) → 0 < k → k < length s.slots.items → band < 8 → band_mark b.next_active.items k band ≡ 0 → (X Y : ℤ) → IsBeside X (place_of s.slots.items k).0 →
      ((start_at (place_of s.slots.items k).1 +ℤ pos (8 * band)) -ℤ pos 1) ≤ℤ Y → Y ≤ℤ (start_at (place_of s.slots.items k).1 +ℤ pos (8 * band + 8)) → state_at (members_of s) X Y ≡ 0 =
      λ k band later inside small clear X Y beside low high.
      unchanged s.index s.slots.items kept.whole.indexed b.previous.items s.current.items b.next_active.items none kept.whole.current_none
      (λ j m n x y j_later j_inside m_small n_small wide y_high near none_there.
      marked.near j m n x y j_later j_inside m_small n_small wide y_high near none_there
      ∙ sym (ap (λ (t : Tile). tile_cell t x y) (empties j j_inside) ∙ empty_cell x y))
      k band later inside small clear X Y beside low high
      ∙ dead X Y in
      record {
        same = is;
        previous_length = previous_length;
        active_length = ap (λ (bs : List Bands). length bs) active_is ∙ next_active_length;
        next_active_length = next_active_length;
        previous_none = none;
        previous_closed = λ k later inside. record { closed = λ m small link. empty_still (tile_of b.previous.items k) m (empties k inside) };
        settled = λ k x y later inside wide high clear.
            let band_clear : band_mark b.next_active.items k (y / 8) ≡ 0 = sym (ap (λ (bs : List Bands). band_mark bs k (y / 8)) active_is) ∙ clear in
            let row : 8 * (y / 8) ≤ y = omega arith in
            let end : y < 8 * (y / 8) + 8 = omega arith in
            ap (λ (t : Tile). tile_cell t x y) (empties k inside) ∙ empty_cell x y
            ∙ sym
            (dead_next s.rule (members_of s) (start_at (place_of s.slots.items k).0 +ℤ pos x) (start_at (place_of s.slots.items k).1 +ℤ pos y)
            (λ p q p1 p2 q1 q2.
            bare k (y / 8) later inside (omega arith) band_clear p q
            (record { from = omega (arith, ints); to = omega (arith, ints) }) (omega (arith, ints)) (omega (arith, ints))));
        again = λ k x y later inside wide high clear.
            let row : 8 * (y / 8) ≤ y = omega arith in
            let end : y < 8 * (y / 8) + 8 = omega arith in
            sym (state_of_slot s.index s.slots.items kept.whole.indexed s.current.items kept.whole.current_none k later inside x y wide high)
            ∙ bare k (y / 8) later inside (omega arith) clear (start_at (place_of s.slots.items k).0 +ℤ pos x) (start_at (place_of s.slots.items k).1 +ℤ pos y)
            (record { from = omega (arith, ints); to = omega (arith, ints) }) (omega (arith, ints)) (omega (arith, ints))
            ∙ sym
            (dead_next s.rule (generation_shown s.index b.previous.items) (start_at (place_of s.slots.items k).0 +ℤ pos x) (start_at (place_of s.slots.items k).1 +ℤ pos y)
            (λ p q p1 p2 q1 q2. dead p q));
      }
