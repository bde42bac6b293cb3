use Rattle.std.proofs.Common.{◌≡◌, ℕ, ℤ, ◌+◌, ◌<◌, ⊎_elim, List, [], length, take, count_by, subst, sym, ap, ◌∙◌, arith}
use Rattle.std.proofs.lemmas.List.{take_all}
use Rattle.std.proofs.lemmas.List.Sums.{count_by_more_no, count_by_more_yes}
use Rattle.life_plane.specs.declared.tile.Tile.{Tile}
use Rattle.life_plane.specs.Area.{tile_cell}
use Rattle.life_cells.specs.Limits.{IsWithin}
use Rattle.life_slots.specs.Ends.{IsVoid}
use Rattle.life_slots.specs.Cells.{has_cell, live_tiles}
use Rattle.life_slots.specs.Slots.{place_of, slot_at, tile_of}
use Rattle.life_tile.specs.declared.tile_store.TileStore.{TileStore}
use Rattle.life_tile.specs.TileStores.{IsCompact, IsTileAt, IsSameBut, cell_of, members_of}
use Rattle.life_tile.proofs.Copied.{IsCopying, copied_none, copied_void, copied_more, copied_all, within_slot}
use Rattle.life_tile.proofs.Tallied.{absent_yet, compact_one, empty_is_void, live_tile, void_tile}
use Rattle.life_tile.proofs.tile_store.TileStore.compacted.Goals as goal
use Rattle.life_tile.proofs.tile_store.TileStore.compacted.Goals.{then-not-is_void+in_ok-put_tile, else-not-is_void}

pub loop-slot-init : goal.loop-slot-init
loop-slot-init c = record {
  copying = record {
    kept = c.in_ok-store.ensures.kept;
    lacks_previous = c.in_ok-store.ensures.lacks_previous;
    age = c.in_ok-store.ensures.age;
    cells = copied_none c.args.self.now c.requires (members_of c.in_ok-store.store) c.in_ok-store.ensures.members;
  };
  compact = compact_one c.in_ok-store.store c.in_ok-store.ensures.one;
  count =
      let one : length c.in_ok-store.store.slots.items ≡ 1 = c.in_ok-store.ensures.one in
      let some : 0 < length c.args.self.now.slots.items = c.requires.whole.indexed.some in
      let same : length c.args.self.now.current.items ≡ length c.args.self.now.slots.items = c.requires.whole.current_length in
      let inside : 0 < length c.args.self.now.current.items = omega arith in
      let none : count_by has_cell (take (0 + 1) c.args.self.now.current.items) ≡ count_by has_cell (take 0 c.args.self.now.current.items) =
      count_by_more_no has_cell c.args.self.now.current.items 0 (record { rows = [] }) inside (void_tile _ (empty_is_void _ c.requires.whole.current_none)) in
      one ∙ ap (λ (n : ℕ). 1 + n) (sym none);
}

pub put_tile-requires-clause-kept : goal.put_tile-requires-clause-kept
put_tile-requires-clause-kept c = c.loop-slot.invariant.copying.kept

pub put_tile-requires-clause-lacks_previous : goal.put_tile-requires-clause-lacks_previous
put_tile-requires-clause-lacks_previous c = c.loop-slot.invariant.copying.lacks_previous

pub put_tile-requires-clause-within : goal.put_tile-requires-clause-within
put_tile-requires-clause-within c = λ x y wide high live.
    let tile_is : c.tile_in-tile.result.now ≡ tile_of c.args.self.now.current.items c.loop-slot.slot =
    c.tile_in-tile.ensures ∙ ap (λ tiles. tile_of tiles c.loop-slot.slot) c.deref.ensures.value in
    subst (λ (n : ℕ). IsWithin n (cell_of c.place.result x y)) (sym c.loop-slot.invariant.copying.age)
    (subst (λ (p : ℤ × ℤ). IsWithin c.args.self.now.age (cell_of p x y)) (sym c.place.ensures)
    (within_slot c.args.self.now c.requires c.loop-slot.slot x y (omega arith) (omega arith) wide high
    (sym (ap (λ (t : Tile). tile_cell t x y) tile_is) ∙ live)))

one_more : (a b m n : ℕ) → a ≡ b + 1 → b ≡ 1 + m → n ≡ m + 1 → a ≡ 1 + n
one_more a b m n more before counted = omega arith

pub loop-slot-preserved : goal.loop-slot-preserved
loop-slot-preserved c =
    let s : TileStore = c.args.self.now in
    let n : ℕ = c.loop-slot.slot in
    let before : IsCopying c.args.self.now c.loop-slot.store c.loop-slot.slot = c.loop-slot.invariant.copying in
    let tile_is : c.tile_in-tile.result.now ≡ tile_of c.args.self.now.current.items c.loop-slot.slot =
    c.tile_in-tile.ensures ∙ ap (λ tiles. tile_of tiles c.loop-slot.slot) c.deref.ensures.value in
    record {
      copying = elim c.if-not-is_void.branch [
        | then-not-is_void+in_ok-put_tile w ↦
            subst (λ (store : TileStore). IsCopying c.args.self.now store (c.loop-slot.slot + 1)) (sym w.store-is)
            (record {
              kept = w.in_ok-put_tile.ensures.kept;
              lacks_previous = w.in_ok-put_tile.ensures.lacks_previous;
              age = w.in_ok-put_tile.ensures.age ∙ c.loop-slot.invariant.copying.age;
              cells =
                  copied_more c.args.self.now c.requires (members_of c.loop-slot.store) (members_of w.put_tile.new.self) c.loop-slot.slot (omega arith) (omega arith)
                  c.loop-slot.invariant.copying.cells
                  (subst (λ (t : Tile). IsTileAt (members_of w.put_tile.new.self) t (place_of c.args.self.now.slots.items c.loop-slot.slot)) tile_is
                  (subst (λ (p : ℤ × ℤ). IsTileAt (members_of w.put_tile.new.self) c.tile_in-tile.result.now p) w.place.ensures w.in_ok-put_tile.ensures.tile))
                  (subst (λ (p : ℤ × ℤ). IsSameBut (members_of c.loop-slot.store) (members_of w.put_tile.new.self) p) w.place.ensures w.in_ok-put_tile.ensures.others);
            })
        | else-not-is_void w ↦
            subst (λ (store : TileStore). IsCopying c.args.self.now store (c.loop-slot.slot + 1)) (sym w.store-is)
            (record {
              kept = c.loop-slot.invariant.copying.kept;
              lacks_previous = c.loop-slot.invariant.copying.lacks_previous;
              age = c.loop-slot.invariant.copying.age;
              cells =
                  copied_void c.args.self.now c.requires (members_of c.loop-slot.store) c.loop-slot.slot c.loop-slot.invariant.copying.cells
                  (subst IsVoid tile_is (c.is_void.ensures.void w.if-not-is_void.false));
            })
      ];
      compact = elim c.if-not-is_void.branch [
        | then-not-is_void+in_ok-put_tile w ↦
            subst IsCompact (sym w.store-is)
            (record {
              live = λ k later inside void.
                  ⊎_elim
                  (λ is. c.is_void.ensures.some w.if-not-is_void.true (subst IsVoid is void))
                  (λ old. c.loop-slot.invariant.compact.live k later old.0 (subst IsVoid old.1 void))
                  (w.in_ok-put_tile.ensures.tiles.each k inside);
            })
        | else-not-is_void w ↦ subst IsCompact (sym w.store-is) c.loop-slot.invariant.compact
      ];
      count = elim c.if-not-is_void.branch [
        | then-not-is_void+in_ok-put_tile w ↦
            let absent : slot_at c.loop-slot.store.index w.place.result ≡ 0 =
            subst (λ (p : ℤ × ℤ). slot_at c.loop-slot.store.index p ≡ 0) (sym w.place.ensures)
            (absent_yet c.args.self.now c.loop-slot.store c.loop-slot.slot c.requires before.kept c.loop-slot.invariant.compact (omega arith) (omega arith) before.cells) in
            subst (λ (store : TileStore). length store.slots.items ≡ 1 + live_tiles (take (c.loop-slot.slot + 1) c.args.self.now.current.items)) (sym w.store-is)
            (one_more _ _ _ _ (w.in_ok-put_tile.ensures.count absent) c.loop-slot.invariant.count
            (count_by_more_yes has_cell c.args.self.now.current.items c.loop-slot.slot (record { rows = [] }) (omega arith)
            (live_tile (tile_of c.args.self.now.current.items c.loop-slot.slot) (λ void. c.is_void.ensures.some w.if-not-is_void.true (subst IsVoid (sym tile_is) void)))))
        | else-not-is_void w ↦
            subst (λ (store : TileStore). length store.slots.items ≡ 1 + live_tiles (take (c.loop-slot.slot + 1) c.args.self.now.current.items)) (sym w.store-is)
            (c.loop-slot.invariant.count
            ∙ ap (λ (n : ℕ). 1 + n)
            (sym
            (count_by_more_no has_cell c.args.self.now.current.items c.loop-slot.slot (record { rows = [] }) (omega arith)
            (void_tile (tile_of c.args.self.now.current.items c.loop-slot.slot) (subst IsVoid tile_is (c.is_void.ensures.void w.if-not-is_void.false))))))
      ];
    }

pub returns-clause-kept : goal.returns-clause-kept
returns-clause-kept c = c.loop-slot.invariant.copying.kept

pub returns-clause-members : goal.returns-clause-members
returns-clause-members c = copied_all c.args.self.now c.requires (members_of c.loop-slot.store) c.loop-slot.slot (omega arith) c.loop-slot.invariant.copying.cells

pub returns-clause-age : goal.returns-clause-age
returns-clause-age c = c.loop-slot.invariant.copying.age

pub returns-clause-compact : goal.returns-clause-compact
returns-clause-compact c = c.loop-slot.invariant.compact

pub returns-clause-count : goal.returns-clause-count
returns-clause-count c =
    let same : length c.args.self.now.current.items ≡ length c.args.self.now.slots.items = c.requires.whole.current_length in
    c.loop-slot.invariant.count ∙ ap (λ (ts : List Tile). 1 + live_tiles ts) (take_all c.loop-slot.slot c.args.self.now.current.items (omega arith))
