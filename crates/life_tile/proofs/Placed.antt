-- The cells of the tiles of slots, one slot after another: they are the members, and no cell appears twice.
use Rattle.std.proofs.Common.{◌≡◌, ℕ, zero, suc, ℤ, pos, ◌+ℤ◌, ◌+◌, ◌<◌, ◌≤◌, ⊎_elim, List, [], ◌++◌, length, length-append, slice_index, take, refl, sym, subst, ap, ◌∙◌, arith}
use Rattle.std.specs.List.{sum_by}
use Rattle.std.specs.Cmp.{both_ways}
use Rattle.std.proofs.lemmas.Bool.{cases_eq}
use Rattle.std.proofs.lemmas.List.{take_all}
use Rattle.std.proofs.lemmas.List.Sums.{sum_by_more}
use Rattle.life_model.specs.Cell.{Cell}
use Rattle.life_model.specs.Generation.{contains, from_list, size}
use Rattle.life_model.proofs.Generations.{contains-from_list, same_members}
use Rattle.life_plane.specs.declared.tile.Tile.{Tile}
use Rattle.life_plane.specs.Area.{tile_cell}
use Rattle.life_slots.specs.Places.{start_at}
use Rattle.life_slots.specs.Cells.{row_cells, block_cells, tile_count}
use Rattle.life_slots.specs.declared.slot.Slot.{Slot}
use Rattle.life_slots.specs.Slots.{Index, slot_at, place_of, tile_of, empty_tile}
use Rattle.life_slots.specs.Indexes.{IsIndexed}
use Rattle.life_slots.specs.Ends.{IsLiveIn, IsLiveAt}
use Rattle.life_slots.proofs.Splits.{same_quotient}
use Rattle.life_slots.proofs.Members.{Has, has_none, has_parts, has_front, has_back, BlockHas, block_has, block_in, row_in}
use Rattle.life_slots.proofs.Counted.{IsFresh, size-fresh, length-block}
use Rattle.life_slots.proofs.Shown.{empty_cell}
use Rattle.life_slots.proofs.Places.{slot_of_place}
use Rattle.life_slots.proofs.Sizes.{fresh-append, fresh_block}
use Rattle.life_slots.proofs.EndCells.{one_is_not_none}
use Rattle.life_tile.specs.declared.tile_store.TileStore.{TileStore}
use Rattle.life_tile.specs.TileStores.{IsKept, members_of}
use Rattle.life_tile.proofs.Edges.{member_live, live_member}

abbrev slot_cells : List Slot → List Tile → ℕ → List Cell
slot_cells slots tiles k = block_cells (start_at (place_of slots k).0) (start_at (place_of slots k).1) (tile_of tiles k).rows 64

-- the cells of the tiles of the slots before slot n
abbrev slots_cells : List Slot → List Tile → ℕ → List Cell
slots_cells slots tiles zero = []
slots_cells slots tiles (suc n) = slot_cells slots tiles n ++ slots_cells slots tiles n

length-slots_cells : (slots : List Slot) (tiles : List Tile) (n : ℕ) → n ≤ length tiles → length (slots_cells slots tiles n) ≡ sum_by tile_count (take n tiles)
length-slots_cells slots tiles zero inside = refl
length-slots_cells slots tiles (suc n) inside =
    let next : suc n ≡ n + 1 = omega arith in
    let below : n < length tiles = omega arith in
    let here : length (slot_cells slots tiles n) ≡ tile_count (tile_of tiles n) =
    length-block (start_at (place_of slots n).0) (start_at (place_of slots n).1) (tile_of tiles n).rows 64 in
    let rest : length (slots_cells slots tiles n) ≡ sum_by tile_count (take n tiles) = length-slots_cells slots tiles n (omega arith) in
    let turned : tile_count (tile_of tiles n) + sum_by tile_count (take n tiles) ≡ sum_by tile_count (take n tiles) + tile_count (tile_of tiles n) = omega arith in
    length-append (slot_cells slots tiles n) (slots_cells slots tiles n)
    ∙ (λ i. here i + rest i)
    ∙ turned
    ∙ sym (sum_by_more tile_count tiles n (record { rows = [] }) below)
    ∙ ap (λ (k : ℕ). sum_by tile_count (take k tiles)) (sym next)

module _ (slots : List Slot) (tiles : List Tile) where
  slot_live : (k : ℕ) (q : Cell) → Has (slot_cells slots tiles k) q → IsLiveIn (tile_of tiles k) (place_of slots k) q
  slot_live k q has =
      let b : BlockHas (start_at (place_of slots k).0) (start_at (place_of slots k).1) (tile_of tiles k).rows 64 q =
      block_has (start_at (place_of slots k).0) (start_at (place_of slots k).1) (tile_of tiles k).rows 64 q has in
      record { x = b.row.j; y = b.i; wide = b.row.inside; high = b.inside; live = b.row.set_bit; is = b.row.is }

  live_slot : (k : ℕ) (q : Cell) → IsLiveIn (tile_of tiles k) (place_of slots k) q → Has (slot_cells slots tiles k) q
  live_slot k q here =
      let left : ℤ = start_at (place_of slots k).0 in
      let top : ℤ = start_at (place_of slots k).1 in
      let rows : List ℕ = (tile_of tiles k).rows in
      block_in left top rows 64 here.y q here.high
      (subst (λ (c : Cell). Has (row_cells left (top +ℤ pos here.y) (slice_index rows here.y) 64) c) (sym here.is)
      (row_in left (top +ℤ pos here.y) (slice_index rows here.y) 64 here.x here.wide here.live))

  live_has : (n : ℕ) (q : Cell) → IsLiveAt slots tiles n q → Has (slots_cells slots tiles n) q
  live_has zero q live = (let h = live.before in absurd (omega arith))
  live_has (suc n) q live =
      ⊎_elim
      (λ (last : live.k ≡ n).
      has_front q (slot_cells slots tiles n) (slots_cells slots tiles n)
      (live_slot n q (subst (λ (k : ℕ). IsLiveIn (tile_of tiles k) (place_of slots k) q) last live.here)))
      (λ other.
      has_back q (slot_cells slots tiles n) (slots_cells slots tiles n)
      (live_has n q (record { k = live.k; later = live.later; before = (let h = live.before in omega arith); here = live.here })))
      (cases_eq live.k n)

  module _ (none : tile_of tiles 0 ≡ empty_tile) where
    not_first : (n : ℕ) (q : Cell) → IsLiveIn (tile_of tiles n) (place_of slots n) q → 0 < n
    not_first n q live =
        ⊎_elim
        (λ (first : n ≡ 0).
        absurd (one_is_not_none _ live.live (ap (λ (k : ℕ). tile_cell (tile_of tiles k) live.x live.y) first ∙ ap (λ (t : Tile). tile_cell t live.x live.y) none ∙ empty_cell live.x live.y)))
        (λ other. omega arith)
        (cases_eq n 0)

    has_live : (n : ℕ) (q : Cell) → Has (slots_cells slots tiles n) q → IsLiveAt slots tiles n q
    has_live zero q has = absurd (has_none q has)
    has_live (suc n) q has =
        ⊎_elim
        (λ last. let here : IsLiveIn (tile_of tiles n) (place_of slots n) q = slot_live n q last in record { k = n; later = not_first n q here; before = omega arith; here = here })
        (λ rest. let live : IsLiveAt slots tiles n q = has_live n q rest in record { k = live.k; later = live.later; before = (let h = live.before in omega arith); here = live.here })
        (has_parts q (slot_cells slots tiles n) (slots_cells slots tiles n) has)

    -- a cell is in the tile of one slot
    module _ (index : Index) (whole : IsIndexed index slots) where
      one_slot : (n : ℕ) → n < length slots → (q : Cell) → Has (slot_cells slots tiles n) q → Has (slots_cells slots tiles n) q → ⊥
      one_slot n inside q in_last in_rest =
          let a : IsLiveIn (tile_of tiles n) (place_of slots n) q = slot_live n q in_last in
          let b : IsLiveAt slots tiles n q = has_live n q in_rest in
          let c : IsLiveIn (tile_of tiles b.k) (place_of slots b.k) q = b.here in
          let before : b.k < n = b.before in
          let is : ◌≡◌ {A = Cell} (start_at (place_of slots n).0 +ℤ pos a.x, start_at (place_of slots n).1 +ℤ pos a.y)
          (start_at (place_of slots b.k).0 +ℤ pos c.x, start_at (place_of slots b.k).1 +ℤ pos c.y) = sym a.is ∙ c.is in
          let across : (place_of slots n).0 ≡ (place_of slots b.k).0 = same_quotient (place_of slots n).0 (place_of slots b.k).0 a.x c.x a.wide c.wide (ap (λ (d : Cell). d.0) is) in
          let down : (place_of slots n).1 ≡ (place_of slots b.k).1 = same_quotient (place_of slots n).1 (place_of slots b.k).1 a.y c.y a.high c.high (ap (λ (d : Cell). d.1) is) in
          let same : n ≡ b.k =
          sym (slot_of_place index slots whole n (not_first n q a) inside) ∙ ap (slot_at index) (λ i. (across i, down i))
          ∙ slot_of_place index slots whole b.k b.later (omega arith) in
          omega arith

      fresh_slots : (n : ℕ) → n ≤ length slots → IsFresh (slots_cells slots tiles n)
      fresh_slots zero inside = tt
      fresh_slots (suc n) inside =
          fresh-append (slot_cells slots tiles n) (slots_cells slots tiles n)
          (fresh_block (start_at (place_of slots n).0) (start_at (place_of slots n).1) (tile_of tiles n).rows 64)
          (fresh_slots n (omega arith))
          (one_slot n (omega arith))

-- there are equally many members and live cells in the tiles
pub size_kept : (store : TileStore) → IsKept store → size (members_of store) ≡ sum_by tile_count store.current.items
unfolding Has
size_kept store kept =
    let n : ℕ = length store.slots.items in
    let cs : List Cell = slots_cells store.slots.items store.current.items n in
    let count : length store.current.items ≡ length store.slots.items = kept.whole.current_length in
    ap size
    (same_members (members_of store) (from_list cs)
    (λ q. both_ways (contains (members_of store) q) (contains (from_list cs) q)
    (λ is. contains-from_list cs q ∙ live_has store.slots.items store.current.items n q (member_live store kept q is))
    (λ is. live_member store kept q (has_live store.slots.items store.current.items kept.whole.current_none n q (sym (contains-from_list cs q) ∙ is)))))
    ∙ size-fresh cs (fresh_slots store.slots.items store.current.items kept.whole.current_none store.index kept.whole.indexed n (omega arith))
    ∙ length-slots_cells store.slots.items store.current.items n (omega arith)
    ∙ ap (λ (ts : List Tile). sum_by tile_count ts) (take_all n store.current.items (omega arith))
