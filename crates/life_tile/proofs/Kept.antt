-- What a store keeps as it grows.
use Rattle.std.proofs.Common.{◌≡◌, ◌≢◌, ℕ, ℤ, pos, ◌+ℤ◌, ◌-ℤ◌, ◌+◌, ◌%◌, ◌/◌, ◌<◌, ◌≤◌, ◌≤ℤ◌, ◌⊎◌, inl, inr, ⊎_elim, true, List, ◌++◌, length, take, drop, refl, sym, subst, ap, ◌∙◌, arith}
use Rattle.std.specs.Option.{unwrap_or}
use Rattle.std.specs.BTreeMap.{get, is_at}
use Rattle.std.specs.Map.{keys_of, lookup}
use Rattle.std.specs.List.Sorted.{IsStrictlySortedBy}
use Rattle.std.proofs.lemmas.Bool.{cases_eq, cases_lt}
use Rattle.std.proofs.lemmas.Int.{ints, by_lt_z}
use Rattle.std.proofs.lemmas.Nat.Bits.{bit_at-lt}
use Rattle.std.proofs.lemmas.List.{take_at}
use Rattle.life_model.specs.Generation.{Generation, contains}
use Rattle.life_model.specs.Evolution.{next}
use Rattle.life_cells.specs.Limits.{IsWithin, age_limit, place_limit}
use Rattle.life_plane.specs.declared.tile.Tile.{Tile}
use Rattle.life_plane.specs.Area.{tile_cell}
use Rattle.life_slots.specs.Places.{place_cmp, IsInside, start_at}
use Rattle.life_slots.proofs.Splits.{not_one}
use Rattle.life_slots.specs.declared.bands.Bands.{Bands}
use Rattle.life_slots.specs.declared.slot.Slot.{Slot}
use Rattle.life_slots.specs.Slots.{slot_at, neighbour_at, place_of, link_of, tile_of, empty_tile, IsReached}
use Rattle.life_slots.specs.Rims.{IsEdge, IsAtEdge, IsStill}
use Rattle.life_slots.specs.Work.{band_mark, IsCalm}
use Rattle.life_slots.specs.Cells.{state_at}
use Rattle.life_slots.specs.Indexes.{IsClosed}
use Rattle.life_slots.proofs.Shown.{empty_cell, shown_state, same_states}
use Rattle.life_slots.proofs.Places.{state_of_slot}
use Rattle.life_slots.proofs.LeafCells.{live_from}
use Rattle.life_tile.specs.declared.tile_store.TileStore.{TileStore}
use Rattle.life_tile.specs.TileStores.{IsTileStore, members_of, earlier_of, IsSettled, IsKept, IsAlike, IsExtended}

-- what is written back through a borrow of all elements
pub written_back : {A : Type 0} (n : ℕ) (new old : List A) → length new ≡ n → take n (new ++ drop (length new) old) ≡ new
written_back n new old count = take_at new (drop (length new) old) n count

pub inside_from_reached : (age : ℕ) (place : ℤ × ℤ) → age ≤ age_limit → IsReached age place → IsInside place
inside_from_reached age place young reached = record {
  west = omega (arith, ints, reached.west);
  east = omega (arith, ints, reached.east);
  north = omega (arith, ints, reached.north);
  south = omega (arith, ints, reached.south);
}

pub empty_still : (tile : Tile) (m : ℕ) → tile ≡ empty_tile → IsStill tile m
empty_still tile m is = record { still = λ x y wide high edge. ap (λ (t : Tile). tile_cell t x y) is ∙ empty_cell x y }

-- ---- the same store with another layout in memory

module _ (before after : TileStore) (alike : IsAlike before after) where
  get_alike : (p : ℤ × ℤ) → get place_cmp after.index p ≡ get place_cmp before.index p
  get_alike p = ap (lookup (is_at (place_cmp p))) alike.index

  at_alike : (p : ℤ × ℤ) → slot_at after.index p ≡ slot_at before.index p
  at_alike p = ap (λ o. unwrap_or o 0) (get_alike p)

  places_alike : (k : ℕ) → place_of after.slots.items k ≡ place_of before.slots.items k
  places_alike k = ap (λ (ss : List Slot). place_of ss k) alike.slots

  links_alike : (k m : ℕ) → link_of after.slots.items k m ≡ link_of before.slots.items k m
  links_alike k m = ap (λ (ss : List Slot). link_of ss k m) alike.slots

  counts_alike : length after.slots.items ≡ length before.slots.items
  counts_alike = ap (λ (ss : List Slot). length ss) alike.slots

  pub store_alike : IsTileStore before → IsTileStore after
  store_alike store =
      let count : length after.slots.items ≡ length before.slots.items = counts_alike in
      let some : 0 < length before.slots.items = store.indexed.some in
      record {
        indexed = record {
          ordered = subst (λ (es : List ((ℤ × ℤ) × ℕ)). IsStrictlySortedBy place_cmp (keys_of es)) (sym alike.index) store.indexed.ordered;
          some = omega arith;
          indexed = λ k later inside. get_alike (place_of after.slots.items k) ∙ ap (get place_cmp before.index) (places_alike k) ∙ store.indexed.indexed k later (omega arith);
          later = λ p k is. store.indexed.later p k (sym (get_alike p) ∙ is);
          inside = λ p k is. (let h : k < length before.slots.items = store.indexed.inside p k (sym (get_alike p) ∙ is) in omega arith);
          placed = λ p k is. places_alike k ∙ store.indexed.placed p k (sym (get_alike p) ∙ is);
          linked = λ k m later inside small.
              links_alike k m ∙ store.indexed.linked k m later (omega arith) small
              ∙ ap (λ (q : ℤ × ℤ). slot_at before.index (neighbour_at q m)) (sym (places_alike k)) ∙ sym (at_alike (neighbour_at (place_of after.slots.items k) m));
        };
        current_length = ap (λ (ts : List Tile). length ts) alike.current ∙ store.current_length ∙ sym counts_alike;
        previous_length = ap (λ (ts : List Tile). length ts) alike.previous ∙ store.previous_length ∙ sym counts_alike;
        active_length = ap (λ (bs : List Bands). length bs) alike.active ∙ store.active_length ∙ sym counts_alike;
        next_active_length = ap (λ (bs : List Bands). length bs) alike.next_active ∙ store.next_active_length ∙ sym counts_alike;
        current_none = ap (λ (ts : List Tile). tile_of ts 0) alike.current ∙ store.current_none;
        previous_none = ap (λ (ts : List Tile). tile_of ts 0) alike.previous ∙ store.previous_none;
      }

  pub extended_alike : IsExtended before after
  extended_alike =
      let count : length after.slots.items ≡ length before.slots.items = counts_alike in
      record {
        age = alike.age;
        rule = alike.rule;
        lacks_previous = alike.lacks_previous;
        more = omega arith;
        place = λ k inside. places_alike k;
        link = λ k m later inside small none. sym (links_alike k m) ∙ none;
        current = λ k inside. ap (λ (ts : List Tile). tile_of ts k) alike.current;
        previous = λ k inside. ap (λ (ts : List Tile). tile_of ts k) alike.previous;
        current_new = λ k past inside. absurd (omega arith);
        previous_new = λ k past inside. absurd (omega arith);
        active = λ k band inside small clear. (omega arith, sym (ap (λ (bs : List Bands). band_mark bs k band) alike.active) ∙ clear);
        current_at = λ p. (λ i. tile_of (alike.current i) (at_alike p i));
        previous_at = λ p. (λ i. tile_of (alike.previous i) (at_alike p i));
      }

pub alike_itself : (s : TileStore) → IsAlike s s
alike_itself s = record { age = refl; rule = refl; lacks_previous = refl; index = refl; slots = refl; current = refl; previous = refl; active = refl; next_active = refl }

pub extended_itself : (s : TileStore) → IsExtended s s
extended_itself s = extended_alike s s (alike_itself s)

-- ---- more slots

pub extended_more : (a b c : TileStore) → IsExtended a b → IsExtended b c → IsExtended a c
extended_more a b c first second =
    let more_ab : length a.slots.items ≤ length b.slots.items = first.more in
    let more_bc : length b.slots.items ≤ length c.slots.items = second.more in
    record {
      age = second.age ∙ first.age;
      rule = second.rule ∙ first.rule;
      lacks_previous = second.lacks_previous ∙ first.lacks_previous;
      more = omega arith;
      place = λ k inside. second.place k (omega arith) ∙ first.place k inside;
      link = λ k m later inside small none. first.link k m later inside small (second.link k m later (omega arith) small none);
      current = λ k inside. second.current k (omega arith) ∙ first.current k inside;
      previous = λ k inside. second.previous k (omega arith) ∙ first.previous k inside;
      current_new = λ k past inside.
          ⊎_elim (λ (old : k < length b.slots.items). second.current k old ∙ first.current_new k past old) (λ new. second.current_new k new inside) (cases_lt k (length b.slots.items));
      previous_new = λ k past inside.
          ⊎_elim (λ (old : k < length b.slots.items). second.previous k old ∙ first.previous_new k past old) (λ new. second.previous_new k new inside) (cases_lt k (length b.slots.items));
      active = λ k band inside small clear. (let h = second.active k band inside small clear in first.active k band h.0 small h.1);
      current_at = λ p. second.current_at p ∙ first.current_at p;
      previous_at = λ p. second.previous_at p ∙ first.previous_at p;
    }

pub closed_extended : (a b : TileStore) (k : ℕ) → IsExtended a b → 0 < k → k < length a.slots.items → IsClosed a.slots.items a.current.items k → IsClosed b.slots.items b.current.items k
closed_extended a b k extended later inside closed = record {
  closed = λ m small none. subst (λ (t : Tile). IsStill t m) (sym (extended.current k inside)) (closed.closed m small (extended.link k m later inside small none));
}

pub closed_new : (a b : TileStore) (k : ℕ) → IsExtended a b → length a.slots.items ≤ k → k < length b.slots.items → IsClosed b.slots.items b.current.items k
closed_new a b k extended past inside = record { closed = λ m small none. empty_still (tile_of b.current.items k) m (extended.current_new k past inside) }

module _ (before after : TileStore) (whole_before : IsTileStore before) (whole_after : IsTileStore after) (extended : IsExtended before after) where
  pub members_extended : members_of after ≡ members_of before
  members_extended =
      same_states (members_of after) (members_of before)
      (λ column row x y wide high.
      shown_state after.index after.current.items whole_after.indexed.ordered whole_after.current_none column row x y wide high
      ∙ ap (λ (t : Tile). tile_cell t x y) (extended.current_at (column, row))
      ∙ sym (shown_state before.index before.current.items whole_before.indexed.ordered whole_before.current_none column row x y wide high))

  earlier_extended : earlier_of after ≡ earlier_of before
  earlier_extended =
      same_states (earlier_of after) (earlier_of before)
      (λ column row x y wide high.
      shown_state after.index after.previous.items whole_after.indexed.ordered whole_after.previous_none column row x y wide high
      ∙ ap (λ (t : Tile). tile_cell t x y) (extended.previous_at (column, row))
      ∙ sym (shown_state before.index before.previous.items whole_before.indexed.ordered whole_before.previous_none column row x y wide high))

  settled_extended : (k band : ℕ) → k < length before.slots.items → IsSettled before k band → IsSettled after k band
  settled_extended k band inside settled = record {
    known = extended.lacks_previous ∙ settled.known;
    cell = λ x y wide high in_band.
        ap (λ (t : Tile). tile_cell t x y) (extended.previous k inside)
        ∙ settled.cell x y wide high in_band
        ∙ sym
        (λ i. state_at (next (extended.rule i) (members_extended i)) (start_at (extended.place k inside i).0 +ℤ pos x) (start_at (extended.place k inside i).1 +ℤ pos y));
  }

  calm_extended : IsCalm after.active.items → IsCalm before.active.items
  calm_extended calm = λ band small. (extended.active 0 band whole_after.indexed.some small (calm band small)).1

  pub kept_extended : IsKept before → ((k : ℕ) → length before.slots.items ≤ k → k < length after.slots.items → IsReached before.age (place_of after.slots.items k)) → IsKept after
  kept_extended kept new =
      let age_is : after.age ≡ before.age = extended.age in
      let young : before.age ≤ age_limit = kept.young in
      record {
        whole = whole_after;
        young = omega arith;
        within = λ c has. subst (λ (a : ℕ). IsWithin a c) (sym extended.age) (kept.within c (sym (ap (λ (G : Generation). contains G c) members_extended) ∙ has));
        reached = λ k later inside. subst (λ (a : ℕ). IsReached a (place_of after.slots.items k)) (sym extended.age)
            (⊎_elim
            (λ (old : k < length before.slots.items). subst (IsReached before.age) (sym (extended.place k old)) (kept.reached k later old))
            (λ past. new k past inside)
            (cases_lt k (length before.slots.items)));
        earlier = λ known. members_extended ∙ kept.earlier (sym extended.lacks_previous ∙ known) ∙ sym (λ i. next (extended.rule i) (earlier_extended i));
        earlier_closed = λ known k later inside.
            ⊎_elim
            (λ (old : k < length before.slots.items).
            record {
              closed = λ m small none. subst (λ (t : Tile). IsStill t m) (sym (extended.previous k old)) ((kept.earlier_closed (sym extended.lacks_previous ∙ known) k later old).closed m small (extended.link k m later old small none));
            })
            (λ past. record { closed = λ m small none. empty_still (tile_of after.previous.items k) m (extended.previous_new k past inside) })
            (cases_lt k (length before.slots.items));
        settled = λ k band later inside small clear. (let old = extended.active k band inside small clear in settled_extended k band old.0 (kept.settled k band later old.0 small old.1));
        closed = λ k later inside idle.
            ⊎_elim
            (λ (old : k < length before.slots.items).
            closed_extended before after k extended later old (kept.closed k later old (λ band small. (extended.active k band inside small (idle band small)).1)))
            (λ past. closed_new before after k extended past inside)
            (cases_lt k (length before.slots.items));
        calm = λ calm. extended.lacks_previous ∙ kept.calm (calm_extended calm);
        grown = λ calm. record {
          closed = λ k later inside.
              ⊎_elim
              (λ (old : k < length before.slots.items). closed_extended before after k extended later old ((kept.grown (calm_extended calm)).closed k later old))
              (λ past. closed_new before after k extended past inside)
              (cases_lt k (length before.slots.items));
        };
      }

-- ---- where a store may grow

le_or_not : (a b : ℤ) → (a ≤ℤ b) ⊎ (a ≤ℤ b → ⊥)
le_or_not a b = by_lt_z b a (λ less. inr (λ le. omega (arith, ints))) (λ not_less. inl (omega (arith, ints)))

low_side : (age side x : ℕ) (s : ℤ) → x < 64 → side < 3 → IsEdge side x → (pos 0 -ℤ pos age) ≤ℤ (start_at s +ℤ pos x) → (pos 0 -ℤ pos (age + 64)) ≤ℤ (start_at ((s +ℤ pos side) -ℤ pos 1))
low_side age side x s wide small edge low =
    ⊎_elim
    (λ (none : side ≡ 0). let x_is : x ≡ 0 = edge.first none in omega (arith, ints))
    (λ (some : side ≢ 0). omega (arith, ints))
    (cases_eq side 0)

high_side : (age side x : ℕ) (s : ℤ) → x < 64 → side < 3 → IsEdge side x → (start_at s +ℤ pos x) ≤ℤ pos (1048575 + age) → (start_at ((s +ℤ pos side) -ℤ pos 1)) ≤ℤ pos (place_limit + age)
high_side age side x s wide small edge high =
    ⊎_elim
    (λ (two : side ≡ 2). let x_is : x ≡ 63 = edge.last two in omega (arith, ints))
    (λ (other : side ≢ 2). omega (arith, ints))
    (cases_eq side 2)

module _ (s : TileStore) (kept : IsKept s) (k m : ℕ) (later : 0 < k) (inside : k < length s.slots.items) (small : m < 9) where
  reached_by : (x y : ℕ) → x < 64 → y < 64 → IsAtEdge m x y → tile_cell (tile_of s.current.items k) x y ≡ 1 → IsReached s.age (neighbour_at (place_of s.slots.items k) m)
  reached_by x y wide high edge one =
      let c : ℤ = (place_of s.slots.items k).0 in
      let r : ℤ = (place_of s.slots.items k).1 in
      let live : contains (members_of s) (start_at c +ℤ pos x, start_at r +ℤ pos y) ≡ true =
      live_from _ (state_of_slot s.index s.slots.items kept.whole.indexed s.current.items kept.whole.current_none k later inside x y wide high ∙ one) in
      let within : IsWithin s.age (start_at c +ℤ pos x, start_at r +ℤ pos y) = kept.within (start_at c +ℤ pos x, start_at r +ℤ pos y) live in
      let column_small : m % 3 < 3 = omega arith in
      let row_small : m / 3 < 3 = omega arith in
      let w = low_side s.age (m % 3) x c wide column_small edge.column (omega (arith, ints, within.left)) in
      let e = high_side s.age (m % 3) x c wide column_small edge.column within.right in
      let n = low_side s.age (m / 3) y r high row_small edge.row (omega (arith, ints, within.above)) in
      let t = high_side s.age (m / 3) y r high row_small edge.row within.below in
      record { west = omega (arith, ints, w); east = e; north = omega (arith, ints, n); south = t }

  by_live : (P : Type 0) → P ⊎ (P → ⊥) → (IsStill (tile_of s.current.items k) m → ⊥) → (IsReached s.age (neighbour_at (place_of s.slots.items k) m) → P) → P
  by_live P decided live gives =
      ⊎_elim (λ p. p)
      (λ not. absurd (live (record {
        still = λ x y wide high edge. not_one _ (bit_at-lt _ x) (λ one. not (gives (reached_by x y wide high edge one)));
      })))
      decided

  -- if a live cell is next to a place, that place may have a tile
  pub reached_beyond : (IsStill (tile_of s.current.items k) m → ⊥) → IsReached s.age (neighbour_at (place_of s.slots.items k) m)
  reached_beyond live = record {
    west = by_live _ (le_or_not _ _) live (λ reached. reached.west);
    east = by_live _ (le_or_not _ _) live (λ reached. reached.east);
    north = by_live _ (le_or_not _ _) live (λ reached. reached.north);
    south = by_live _ (le_or_not _ _) live (λ reached. reached.south);
  }
