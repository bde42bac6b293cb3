-- The next generation, once the tiles that may change are worked out.
use Rattle.std.proofs.Common.{◌≡◌, ℕ, ℤ, pos, ◌+ℤ◌, ◌-ℤ◌, ◌+◌, ◌*◌, ◌/◌, ◌<◌, ◌≤◌, ◌≢◌, ◌≤ℤ◌, ⊎_elim, List, length, sym, subst, ap, ◌∙◌, arith}
use Rattle.std.proofs.lemmas.Bool.{cases_eq}
use Rattle.std.proofs.lemmas.Int.{ints}
use Rattle.life_model.specs.Rule.{Rule}
use Rattle.life_model.specs.Evolution.{next}
use Rattle.life_plane.specs.declared.tile.Tile.{Tile}
use Rattle.life_plane.specs.Area.{tile_cell}
use Rattle.life_slots.specs.Places.{IsBeside, start_at}
use Rattle.life_slots.proofs.Splits.{Split, split}
use Rattle.life_slots.specs.declared.bands.Bands.{Bands}
use Rattle.life_slots.specs.declared.slot.Slot.{Slot}
use Rattle.life_slots.specs.Slots.{Index, slot_at, neighbour_at, place_of, link_of, tile_of, empty_tile, generation_shown}
use Rattle.life_slots.specs.Rims.{IsAtEdge, IsNextToBand}
use Rattle.life_slots.specs.Work.{band_mark, IsWorkedOut, IsIdle, IsCalm}
use Rattle.life_slots.specs.Cells.{state_at}
use Rattle.life_slots.specs.Indexes.{IsIndexed, IsSlotOf, IsClosed}
use Rattle.life_slots.proofs.Bits.{bit_cases}
use Rattle.life_slots.proofs.Shown.{shown_state, same_states}
use Rattle.life_slots.proofs.Windows.{next_alike}
use Rattle.life_slots.proofs.Places.{here_is, Direction, direction_of, slot_cases, slot_of_place, state_absent, next_linked, quiet, dead_next}

-- the rows next to a band, counted from the tile that they are in
next_to : (m band y : ℕ) (row p Y : ℤ) → ((row +ℤ pos (m / 3)) -ℤ pos 1) ≡ p → Y ≡ (start_at row +ℤ pos y) →
    ((start_at p +ℤ pos (8 * band)) -ℤ pos 1) ≤ℤ Y → Y ≤ℤ (start_at p +ℤ pos (8 * band + 8)) →
    (8 * (8 * (m / 3) + band) ≤ y + 65) × (y + 56 ≤ 8 * (8 * (m / 3) + band))
next_to m band y row p Y is at low high = (omega (arith, ints), omega (arith, ints))

record BandBeyond (m x y : ℕ) : Type 0 where
  pub band : ℕ
  pub small : band < 8
  pub near : IsNextToBand (record { direction = m; band = band; column = x; row = y })

-- each cell at the edge in a direction is next to a band of the tile there
beyond : (m x y : ℕ) → m < 9 → y < 64 → IsAtEdge m x y → BandBeyond m x y
beyond m x y small high edge =
    ⊎_elim
    (λ (north : m / 3 ≡ 0).
    let y_is : y ≡ 0 = edge.row.first north in
    record { band = 7; small = omega arith; near = record { column = edge.column; from = omega arith; to = omega arith } })
    (λ (not_north : m / 3 ≢ 0).
    ⊎_elim
    (λ (south : m / 3 ≡ 2).
    let y_is : y ≡ 63 = edge.row.last south in
    record { band = 0; small = omega arith; near = record { column = edge.column; from = omega arith; to = omega arith } })
    (λ (not_south : m / 3 ≢ 2).
    let here : m / 3 ≡ 1 = omega arith in
    record { band = y / 8; small = omega arith; near = record { column = edge.column; from = omega arith; to = omega arith } })
    (cases_eq (m / 3) 2))
    (cases_eq (m / 3) 0)

-- and each cell is next to its own band
in_own : (x y : ℕ) → y < 64 → IsNextToBand (record { direction = 4; band = y / 8; column = x; row = y })
in_own x y high = record {
  column = record { first = λ is. absurd (omega arith); last = λ is. absurd (omega arith) };
  from = omega arith;
  to = omega arith;
}

module _ (index : Index) (slots : List Slot) (whole : IsIndexed index slots) (previous after : List Tile) (marked : List Bands) (previous_none : tile_of previous 0 ≡ empty_tile) (after_none : tile_of after 0 ≡ empty_tile)
    (around : (k m band x y : ℕ) → 0 < k → k < length slots → m < 9 → band < 8 → x < 64 → y < 64 →
    IsNextToBand (record { direction = m; band = band; column = x; row = y }) → band_mark marked (link_of slots k m) band ≡ 0 →
    tile_cell (tile_of after k) x y ≡ tile_cell (tile_of previous k) x y) where
  -- in and next to a band that is not marked nothing changed
  pub unchanged : (j band : ℕ) → 0 < j → j < length slots → band < 8 → band_mark marked j band ≡ 0 → (X Y : ℤ) → IsBeside X (place_of slots j).0 →
      ((start_at (place_of slots j).1 +ℤ pos (8 * band)) -ℤ pos 1) ≤ℤ Y → Y ≤ℤ (start_at (place_of slots j).1 +ℤ pos (8 * band + 8)) →
      state_at (generation_shown index after) X Y ≡ state_at (generation_shown index previous) X Y
  unchanged j band later inside b_small clear X Y beside_x low high =
      let beside_y : IsBeside Y (place_of slots j).1 = record { from = omega (arith, ints); to = omega (arith, ints) } in
      let s : Split X = split X in
      let t : Split Y = split Y in
      (λ i. state_at (generation_shown index after) (s.is i) (t.is i))
      ∙ ⊎_elim
      (λ absent.
      state_absent index slots whole after after_none (s.quotient, t.quotient) s.remainder t.remainder s.small t.small absent
      ∙ sym (state_absent index slots whole previous previous_none (s.quotient, t.quotient) s.remainder t.remainder s.small t.small absent))
      (λ (there : IsSlotOf slots (s.quotient, t.quotient) (slot_at index (s.quotient, t.quotient))).
      let k : ℕ = slot_at index (s.quotient, t.quotient) in
      let d : Direction (s.quotient, t.quotient) (place_of slots j) s.remainder t.remainder =
      direction_of (s.quotient, t.quotient) (place_of slots j) s.remainder t.remainder s.small t.small
      (subst (λ (z : ℤ). IsBeside z (place_of slots j).0) s.is beside_x) (subst (λ (z : ℤ). IsBeside z (place_of slots j).1) t.is beside_y) in
      let link : link_of slots k d.m ≡ j =
      whole.linked k d.m there.later there.inside d.small ∙ ap (λ (z : ℤ × ℤ). slot_at index (neighbour_at z d.m)) there.place ∙ ap (slot_at index) d.is ∙ slot_of_place index slots whole j later inside in
      let rows = next_to d.m band t.remainder t.quotient (place_of slots j).1 Y (ap (λ (z : ℤ × ℤ). z.1) d.is) t.is low high in
      shown_state index after whole.ordered after_none s.quotient t.quotient s.remainder t.remainder s.small t.small
      ∙ around k d.m band s.remainder t.remainder there.later there.inside d.small b_small s.small t.small
      (record { column = d.edge.column; from = rows.0; to = rows.1 }) (ap (λ i. band_mark marked i band) link ∙ clear)
      ∙ sym (shown_state index previous whole.ordered previous_none s.quotient t.quotient s.remainder t.remainder s.small t.small))
      (slot_cases index slots whole (s.quotient, t.quotient))
      ∙ sym (λ i. state_at (generation_shown index previous) (s.is i) (t.is i))

module _ (index : Index) (slots : List Slot) (whole : IsIndexed index slots) (current previous after : List Tile) (active marks marked : List Bands) (rule : Rule)
    (current_none : tile_of current 0 ≡ empty_tile) (previous_none : tile_of previous 0 ≡ empty_tile)
    (worked : IsWorkedOut slots (record { current = current; active = active; rule = rule; before = previous; after = after; marks_before = marks; marks_after = marked; done = length slots })) where
  pub after_none : tile_of after 0 ≡ empty_tile
  after_none = worked.first ∙ previous_none

  -- every tile is worked out, or was so before
  pub advanced :
      ((k : ℕ) → 0 < k → k < length slots → IsClosed slots current k) →
      ((k x y : ℕ) → 0 < k → k < length slots → x < 64 → y < 64 → band_mark active k (y / 8) ≡ 0 →
      tile_cell (tile_of previous k) x y ≡ state_at (next rule (generation_shown index current)) (start_at (place_of slots k).0 +ℤ pos x) (start_at (place_of slots k).1 +ℤ pos y)) →
      generation_shown index after ≡ next rule (generation_shown index current)
  advanced closed settled =
      same_states (generation_shown index after) (next rule (generation_shown index current))
      (λ column row x y wide high.
      ⊎_elim
      (λ (absent : slot_at index (column, row) ≡ 0).
      state_absent index slots whole after after_none (column, row) x y wide high absent
      ∙ sym
      (dead_next rule (generation_shown index current) (start_at column +ℤ pos x) (start_at row +ℤ pos y)
      (λ a b a1 a2 b1 b2.
      quiet index slots whole current current_none closed (column, row) absent a b
      (record { from = omega (arith, ints); to = omega (arith, ints) }) (record { from = omega (arith, ints); to = omega (arith, ints) }))))
      (λ (there : IsSlotOf slots (column, row) (slot_at index (column, row))).
      let k : ℕ = slot_at index (column, row) in
      shown_state index after whole.ordered after_none column row x y wide high
      ∙ ⊎_elim
      (λ (busy : band_mark active (slot_at index (column, row)) (y / 8) ≡ 1).
      worked.next k x y there.later there.inside wide high busy ∙ next_linked index slots whole current current_none rule k there.later there.inside x y wide high)
      (λ (idle : band_mark active (slot_at index (column, row)) (y / 8) ≡ 0).
      worked.idle k x y wide high idle ∙ settled k x y there.later there.inside wide high idle)
      (bit_cases _ (y / 8))
      ∙ ap (λ (p : ℤ × ℤ). state_at (next rule (generation_shown index current)) (start_at p.0 +ℤ pos x) (start_at p.1 +ℤ pos y)) there.place)
      (slot_cases index slots whole (column, row)))

  -- so it will be again what it is now, if that is what the generation before becomes
  pub settled_again : (j x y : ℕ) → 0 < j → j < length slots → x < 64 → y < 64 → band_mark marked j (y / 8) ≡ 0 →
      tile_cell (tile_of current j) x y ≡ state_at (next rule (generation_shown index previous)) (start_at (place_of slots j).0 +ℤ pos x) (start_at (place_of slots j).1 +ℤ pos y) →
      tile_cell (tile_of current j) x y ≡ state_at (next rule (generation_shown index after)) (start_at (place_of slots j).0 +ℤ pos x) (start_at (place_of slots j).1 +ℤ pos y)
  settled_again j x y later inside wide high clear earlier =
      let row : 8 * (y / 8) ≤ y = omega arith in
      let end : y < 8 * (y / 8) + 8 = omega arith in
      earlier
      ∙ sym
      (next_alike rule (generation_shown index after) (generation_shown index previous) (start_at (place_of slots j).0 +ℤ pos x) (start_at (place_of slots j).1 +ℤ pos y)
      (λ a b a1 a2 b1 b2.
      unchanged index slots whole previous after marked previous_none after_none worked.around j (y / 8) later inside (omega arith) clear a b
      (record { from = omega (arith, ints); to = omega (arith, ints) }) (omega (arith, ints)) (omega (arith, ints))))

  -- and where no band of slot 0, which stands for all places without a slot, is marked, no live cell is next to such a place
  pub closed_again : IsCalm marked → ((k : ℕ) → 0 < k → k < length slots → IsClosed slots previous k) → (j : ℕ) → 0 < j → j < length slots → IsClosed slots after j
  closed_again calm closed j later inside = record {
    closed = λ m small link. record {
      still = λ x y wide high edge.
          let b : BandBeyond m x y = beyond m x y small high edge in
          worked.around j m b.band x y later inside small b.small wide high b.near (ap (λ k. band_mark marked k b.band) link ∙ calm b.band b.small)
          ∙ ((closed j later inside).closed m small link).still x y wide high edge;
    };
  }

  -- nor next to a slot of which no band is marked, since no cell of its tile changed
  pub closed_idle : (j : ℕ) → 0 < j → j < length slots → IsIdle marked j → IsClosed slots previous j → IsClosed slots after j
  closed_idle j later inside idle closed =
      let own : link_of slots j 4 ≡ j =
      whole.linked j 4 later inside (omega arith) ∙ ap (slot_at index) (here_is (place_of slots j)) ∙ slot_of_place index slots whole j later inside in
      record {
        closed = λ m small link. record {
          still = λ x y wide high edge.
              worked.around j 4 (y / 8) x y later inside (omega arith) (omega arith) wide high (in_own x y high) (ap (λ k. band_mark marked k (y / 8)) own ∙ idle (y / 8) (omega arith))
              ∙ (closed.closed m small link).still x y wide high edge;
        };
      }
