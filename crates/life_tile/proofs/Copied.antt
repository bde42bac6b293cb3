-- A tile that a slot shows in a fresh store.
use Rattle.std.proofs.Common.{◌≡◌, ◌≢◌, ℕ, ℤ, ◌+◌, ◌<◌, ◌≤◌, ⊎_elim, true, length, sym, subst, ap, ◌∙◌, arith}
use Rattle.std.proofs.lemmas.Bool.{cases_eq}
use Rattle.life_model.specs.Cell.{Cell}
use Rattle.life_model.specs.Generation.{Generation, contains, empty}
use Rattle.life_model.proofs.Generations.{contains-empty}
use Rattle.life_cells.specs.Limits.{IsWithin}
use Rattle.life_plane.specs.declared.tile.Tile.{Tile}
use Rattle.life_plane.specs.Flags.{as_bit}
use Rattle.life_plane.specs.Area.{tile_cell}
use Rattle.life_slots.specs.Ends.{IsVoid}
use Rattle.life_slots.specs.Slots.{slot_at, place_of, tile_of, empty_tile, generation_shown}
use Rattle.life_slots.specs.Cells.{state_at}
use Rattle.life_slots.specs.Indexes.{IsSlotOf}
use Rattle.life_slots.proofs.Shown.{empty_cell, shown_state, same_states}
use Rattle.life_slots.proofs.Splits.{Split, split}
use Rattle.life_slots.proofs.Places.{slot_cases, slot_of_place}
use Rattle.life_slots.proofs.LeafCells.{live_from}
use Rattle.life_tile.specs.declared.tile_store.TileStore.{TileStore}
use Rattle.life_tile.specs.TileStores.{IsKept, IsTileAt, IsSameBut, cell_of, members_of}
use Rattle.life_tile.proofs.Put.{kept_fresh, busy_fresh, stirred_fresh}

module _ (s u : TileStore) (k : ℕ) (tile : Tile) (place : ℤ × ℤ) (kept : IsKept s) (lacks_previous : s.lacks_previous ≡ true) (slot : IsSlotOf s.slots.items place k)
    (count : length u.current.items ≡ length s.current.items) (apart : (j : ℕ) → j ≢ k → tile_of u.current.items j ≡ tile_of s.current.items j)
    (here : tile_of u.current.items k ≡ tile) (within : (x y : ℕ) → x < 64 → y < 64 → tile_cell tile x y ≡ 1 → IsWithin s.age (cell_of place x y)) where
  at_slot : slot_at s.index place ≡ k
  at_slot = ap (slot_at s.index) (sym slot.place) ∙ slot_of_place s.index s.slots.items kept.whole.indexed k slot.later slot.inside

  none : tile_of u.current.items 0 ≡ empty_tile
  none =
      let later : 0 < k = slot.later in
      let other : 0 ≢ k = omega arith in
      apart 0 other ∙ kept.whole.current_none

  place_is : (p : ℤ × ℤ) → slot_at s.index p ≡ k → p ≡ place
  place_is p same =
      ⊎_elim
      (λ (absent : slot_at s.index p ≡ 0).
      let zero : k ≡ 0 = sym same ∙ absent in
      let later : 0 < k = slot.later in
      absurd (omega arith))
      (λ (there : IsSlotOf s.slots.items p (slot_at s.index p)). sym there.place ∙ ap (place_of s.slots.items) same ∙ slot.place)
      (slot_cases s.index s.slots.items kept.whole.indexed p)

  tile_shown : (x y : ℕ) → x < 64 → y < 64 → state_at (generation_shown s.index u.current.items) (cell_of place x y).0 (cell_of place x y).1 ≡ tile_cell tile x y
  tile_shown x y wide high =
      shown_state s.index u.current.items kept.whole.indexed.ordered none place.0 place.1 x y wide high
      ∙ ap (λ j. tile_cell (tile_of u.current.items j) x y) at_slot
      ∙ ap (λ (t : Tile). tile_cell t x y) here

  else_shown : (p : ℤ × ℤ) (x y : ℕ) → x < 64 → y < 64 → slot_at s.index p ≢ k →
      state_at (generation_shown s.index u.current.items) (cell_of p x y).0 (cell_of p x y).1 ≡ state_at (members_of s) (cell_of p x y).0 (cell_of p x y).1
  else_shown p x y wide high other =
      shown_state s.index u.current.items kept.whole.indexed.ordered none p.0 p.1 x y wide high
      ∙ ap (λ (t : Tile). tile_cell t x y) (apart (slot_at s.index p) other)
      ∙ sym (shown_state s.index s.current.items kept.whole.indexed.ordered kept.whole.current_none p.0 p.1 x y wide high)

  pub tile_at : IsTileAt (generation_shown s.index u.current.items) tile place
  tile_at = record { cell = tile_shown }

  pub same_but : IsSameBut (members_of s) (generation_shown s.index u.current.items) place
  same_but = record { cell = λ p x y wide high other. else_shown p x y wide high (λ same. other (place_is p same)) }

  within_at : (p : ℤ × ℤ) (x y : ℕ) → x < 64 → y < 64 → state_at (generation_shown s.index u.current.items) (cell_of p x y).0 (cell_of p x y).1 ≡ 1 → IsWithin s.age (cell_of p x y)
  within_at p x y wide high live =
      ⊎_elim
      (λ (same : slot_at s.index p ≡ k).
      let is : p ≡ place = place_is p same in
      subst (λ (q : ℤ × ℤ). IsWithin s.age (cell_of q x y)) (sym is)
      (within x y wide high
      (sym (tile_shown x y wide high)
      ∙ ap (λ (q : ℤ × ℤ). state_at (generation_shown s.index u.current.items) (cell_of q x y).0 (cell_of q x y).1) (sym is) ∙ live)))
      (λ other. kept.within (cell_of p x y) (live_from _ (sym (else_shown p x y wide high other) ∙ live)))
      (cases_eq (slot_at s.index p) k)

  within_all : (c : Cell) → contains (generation_shown s.index u.current.items) c ≡ true → IsWithin s.age c
  within_all c has =
      let q : Split c.0 = split c.0 in
      let r : Split c.1 = split c.1 in
      let is : c ≡ cell_of (q.quotient, r.quotient) q.remainder r.remainder = λ i. (q.is i, r.is i) in
      subst (IsWithin s.age) (sym is)
      (within_at (q.quotient, r.quotient) q.remainder r.remainder q.small r.small
      (ap (λ (d : Cell). as_bit (contains (generation_shown s.index u.current.items) d)) (sym is) ∙ ap as_bit has))

  pub kept_shown : IsKept (record s { current = u.current })
  kept_shown =
      kept_fresh (record s { current = u.current })
      (record {
        indexed = kept.whole.indexed;
        current_length = count ∙ kept.whole.current_length;
        previous_length = kept.whole.previous_length;
        active_length = kept.whole.active_length;
        next_active_length = kept.whole.next_active_length;
        current_none = none;
        previous_none = kept.whole.previous_none;
      })
      kept.young within_all kept.reached lacks_previous (busy_fresh s kept lacks_previous) (stirred_fresh s kept lacks_previous)

-- The slots before slot n of a store are copied: their cells are those of a set, which has no others.
pub record IsCopied (s : TileStore) (G : Generation) (n : ℕ) : Type 0 where
  pub copied : (p : ℤ × ℤ) (x y : ℕ) → x < 64 → y < 64 → slot_at s.index p < n →
      state_at G (cell_of p x y).0 (cell_of p x y).1 ≡ tile_cell (tile_of s.current.items (slot_at s.index p)) x y
  pub rest : (p : ℤ × ℤ) (x y : ℕ) → x < 64 → y < 64 → n ≤ slot_at s.index p → state_at G (cell_of p x y).0 (cell_of p x y).1 ≡ 0

-- a fresh store has the cells of the slots before slot n of another one
pub record IsCopying (s store : TileStore) (n : ℕ) : Type 0 where
  pub kept : IsKept store
  pub lacks_previous : store.lacks_previous ≡ true
  pub age : store.age ≡ s.age
  pub cells : IsCopied s (members_of store) n

module _ (s : TileStore) (kept : IsKept s) where
  pub copied_none : (G : Generation) → G ≡ empty → IsCopied s G 1
  copied_none G is =
      let dead : (c : Cell) → as_bit (contains G c) ≡ 0 = λ c. ap (λ (H : Generation). as_bit (contains H c)) is ∙ ap as_bit (contains-empty c) in
      record {
        copied = λ p x y wide high first.
            let zero : slot_at s.index p ≡ 0 = omega arith in
            dead (cell_of p x y)
            ∙ sym (ap (λ j. tile_cell (tile_of s.current.items j) x y) zero ∙ ap (λ (t : Tile). tile_cell t x y) kept.whole.current_none ∙ empty_cell x y);
        rest = λ p x y wide high later. dead (cell_of p x y);
      }

  -- a tile without a live cell need not be copied
  pub copied_void : (G : Generation) (n : ℕ) → IsCopied s G n → IsVoid (tile_of s.current.items n) → IsCopied s G (n + 1)
  copied_void G n copied void = record {
    copied = λ p x y wide high less.
        ⊎_elim
        (λ (here : slot_at s.index p ≡ n).
        let from : n ≤ slot_at s.index p = omega arith in
        copied.rest p x y wide high from
        ∙ sym (ap (λ j. tile_cell (tile_of s.current.items j) x y) here ∙ void.dead x y wide high))
        (λ (other : slot_at s.index p ≢ n). copied.copied p x y wide high (omega arith))
        (cases_eq (slot_at s.index p) n);
    rest = λ p x y wide high later. copied.rest p x y wide high (omega arith);
  }

  pub copied_more : (G H : Generation) (n : ℕ) → 0 < n → n < length s.slots.items → IsCopied s G n → IsTileAt H (tile_of s.current.items n) (place_of s.slots.items n) →
      IsSameBut G H (place_of s.slots.items n) → IsCopied s H (n + 1)
  copied_more G H n later inside copied here others =
      let slot_is : slot_at s.index (place_of s.slots.items n) ≡ n = slot_of_place s.index s.slots.items kept.whole.indexed n later inside in
      let apart : (p : ℤ × ℤ) → slot_at s.index p ≢ n → p ≢ place_of s.slots.items n = λ p other is. other (ap (slot_at s.index) is ∙ slot_is) in
      record {
        copied = λ p x y wide high less.
            ⊎_elim
            (λ (same : slot_at s.index p ≡ n).
            ⊎_elim
            (λ (absent : slot_at s.index p ≡ 0). absurd (omega arith))
            (λ (there : IsSlotOf s.slots.items p (slot_at s.index p)).
            let is : p ≡ place_of s.slots.items n = sym there.place ∙ ap (place_of s.slots.items) same in
            ap (λ (q : ℤ × ℤ). state_at H (cell_of q x y).0 (cell_of q x y).1) is
            ∙ here.cell x y wide high ∙ ap (λ j. tile_cell (tile_of s.current.items j) x y) (sym same))
            (slot_cases s.index s.slots.items kept.whole.indexed p))
            (λ (other : slot_at s.index p ≢ n). others.cell p x y wide high (apart p other) ∙ copied.copied p x y wide high (omega arith))
            (cases_eq (slot_at s.index p) n);
        rest = λ p x y wide high past.
            let other : slot_at s.index p ≢ n = omega arith in
            others.cell p x y wide high (apart p other) ∙ copied.rest p x y wide high (omega arith);
      }

  pub copied_all : (G : Generation) (n : ℕ) → length s.slots.items ≤ n → IsCopied s G n → G ≡ members_of s
  copied_all G n all copied =
      same_states G (members_of s)
      (λ column row x y wide high.
      let p : ℤ × ℤ = (column, row) in
      let less : slot_at s.index (column, row) < n =
      ⊎_elim
      (λ (absent : slot_at s.index (column, row) ≡ 0). let some : 0 < length s.slots.items = kept.whole.indexed.some in omega arith)
      (λ (there : IsSlotOf s.slots.items (column, row) (slot_at s.index (column, row))). let inside = there.inside in omega arith)
      (slot_cases s.index s.slots.items kept.whole.indexed (column, row)) in
      copied.copied (column, row) x y wide high less
      ∙ sym (shown_state s.index s.current.items kept.whole.indexed.ordered kept.whole.current_none column row x y wide high))

  -- the live cells of the tile of a slot are within the reach of the store's age
  pub within_slot : (n x y : ℕ) → 0 < n → n < length s.slots.items → x < 64 → y < 64 → tile_cell (tile_of s.current.items n) x y ≡ 1 → IsWithin s.age (cell_of (place_of s.slots.items n) x y)
  within_slot n x y later inside wide high live =
      kept.within (cell_of (place_of s.slots.items n) x y)
      (live_from _ (shown_state s.index s.current.items kept.whole.indexed.ordered kept.whole.current_none (place_of s.slots.items n).0 (place_of s.slots.items n).1 x y wide high
      ∙ ap (λ j. tile_cell (tile_of s.current.items j) x y) (slot_of_place s.index s.slots.items kept.whole.indexed n later inside) ∙ live))
