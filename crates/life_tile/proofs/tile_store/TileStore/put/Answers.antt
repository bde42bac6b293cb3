use Rattle.std.proofs.lemmas.Int.{ints}
use Rattle.std.proofs.Common.{◌≡◌, ◌≢◌, ℕ, ℤ, pos, ◌+ℤ◌, w32, to_z, of_z, ◌<◌, ⊎_elim, true, length, sym, subst, ap, ◌∙◌, arith}
use Rattle.std.proofs.lemmas.Bool.{cases_eq, cases_lt}
use Rattle.life_plane.specs.Area.{tile_cell}
use Rattle.life_model.specs.Generation.{Generation, insert}
use Rattle.life_cells.specs.Limits.{IsWithin}
use Rattle.life_slots.specs.Ends.{IsVoid}
use Rattle.life_slots.specs.Places.{start_at}
use Rattle.life_slots.specs.Slots.{tile_of, empty_tile}
use Rattle.life_slots.specs.Indexes.{IsSlotOf}
use Rattle.life_tile.specs.declared.tile_store.TileStore.{TileStore}
use Rattle.life_tile.specs.TileStores.{IsKept, members_of}
use Rattle.life_tile.proofs.Kept.{members_extended}
use Rattle.life_tile.proofs.Put.{members_put, kept_put}
use Rattle.life_tile.proofs.tile_store.TileStore.put.Goals as goal

module _ (c : goal.After-set) where
  cell_is : c.args.cell ≡ (start_at c.split-column.result.0 +ℤ pos c.split-column.result.1, start_at c.split-row.result.0 +ℤ pos c.split-row.result.1)
  cell_is =
      let young = c.requires.kept.young in
      let across : c.args.cell.0 ≡ (start_at c.split-column.result.0 +ℤ pos c.split-column.result.1) = omega (arith, ints, c.split-column.ensures.is, c.requires.within.left, c.requires.within.right) in
      let down : c.args.cell.1 ≡ (start_at c.split-row.result.0 +ℤ pos c.split-row.result.1) = omega (arith, ints, c.split-row.ensures.is, c.requires.within.above, c.requires.within.below) in
      λ i. (across i, down i)

  place_is : ◌≡◌ {A = ℤ × ℤ} (to_z w32 (of_z w32 c.split-column.result.0), to_z w32 (of_z w32 c.split-row.result.0)) (c.split-column.result.0, c.split-row.result.0)
  place_is =
      let young = c.requires.kept.young in
      let small_x = c.split-column.ensures.small in
      let small_y = c.split-row.ensures.small in
      let across : to_z w32 (of_z w32 c.split-column.result.0) ≡ c.split-column.result.0 = omega (arith, ints, c.split-column.ensures.is, c.requires.within.left, c.requires.within.right) in
      let down : to_z w32 (of_z w32 c.split-row.result.0) ≡ c.split-row.result.0 = omega (arith, ints, c.split-row.ensures.is, c.requires.within.above, c.requires.within.below) in
      λ i. (across i, down i)

  lacks_previous : c.slot_for.new.self.lacks_previous ≡ true
  lacks_previous = c.slot_for.ensures.extended.lacks_previous ∙ c.requires.lacks_previous

  within : IsWithin c.slot_for.new.self.age c.args.cell
  within = subst (λ (n : ℕ). IsWithin n c.args.cell) (sym c.slot_for.ensures.extended.age) c.requires.within

  slot : IsSlotOf c.slot_for.new.self.slots.items (c.split-column.result.0, c.split-row.result.0) c.in_ok-slot.slot
  slot = subst (λ (p : ℤ × ℤ). IsSlotOf c.slot_for.new.self.slots.items p c.in_ok-slot.slot) place_is c.in_ok-slot.ensures.slot

  none : tile_of c.set.new.self.current.items 0 ≡ empty_tile
  none =
      let later : 0 < c.in_ok-slot.slot = (slot).later in
      let other : 0 ≢ c.in_ok-slot.slot = omega arith in
      c.set.ensures.apart 0 other ∙ c.slot_for.ensures.kept.whole.current_none

pub returns-clause-kept : goal.returns-clause-kept
returns-clause-kept c =
    subst IsKept (sym c.set.ensures.same)
    (kept_put c.slot_for.new.self c.set.new.self c.in_ok-slot.slot c.split-column.result.1 c.split-row.result.1 (c.split-column.result.0, c.split-row.result.0) c.args.cell
    c.slot_for.ensures.kept (lacks_previous c) (slot c) c.split-column.ensures.small c.split-row.ensures.small (cell_is c) (within c)
    c.set.ensures.count c.set.ensures.here c.set.ensures.others (none c))

pub returns-clause-members : goal.returns-clause-members
returns-clause-members c =
    ap members_of c.set.ensures.same
    ∙ members_put c.slot_for.new.self c.set.new.self c.in_ok-slot.slot c.split-column.result.1 c.split-row.result.1 (c.split-column.result.0, c.split-row.result.0) c.args.cell
    c.slot_for.ensures.kept (lacks_previous c) (slot c) c.split-column.ensures.small c.split-row.ensures.small (cell_is c) (within c)
    c.set.ensures.count c.set.ensures.here c.set.ensures.others (none c)
    ∙ ap (λ (G : Generation). insert G c.args.cell)
    (members_extended c.args.self.now c.slot_for.new.self c.requires.kept.whole c.slot_for.ensures.kept.whole c.slot_for.ensures.extended)

pub returns-clause-compact : goal.returns-clause-compact
returns-clause-compact c = λ before.
    let count : length c.set.new.self.slots.items ≡ length c.slot_for.new.self.slots.items = ap (λ (s : TileStore). length s.slots.items) c.set.ensures.same in
    record {
      live = λ k later inside void.
          ⊎_elim
          (λ (same : k ≡ c.in_ok-slot.slot).
          let alive : tile_cell (tile_of c.set.new.self.current.items k) c.split-column.result.1 c.split-row.result.1 ≡ 1 =
          ap (λ (n : ℕ). tile_cell (tile_of c.set.new.self.current.items n) c.split-column.result.1 c.split-row.result.1) same ∙ c.set.ensures.here in
          let dead : tile_cell (tile_of c.set.new.self.current.items k) c.split-column.result.1 c.split-row.result.1 ≡ 0 =
          void.dead c.split-column.result.1 c.split-row.result.1 c.split-column.ensures.small c.split-row.ensures.small in
          absurd (omega arith))
          (λ (other : k ≢ c.in_ok-slot.slot).
          ⊎_elim
          (λ (less : k < length c.args.self.now.slots.items).
          before.live k later less (subst IsVoid (c.set.ensures.apart k other ∙ c.slot_for.ensures.extended.current k less) void))
          (λ past. absurd (other (c.in_ok-slot.ensures.made k past (omega arith))))
          (cases_lt k (length c.args.self.now.slots.items)))
          (cases_eq k c.in_ok-slot.slot);
    }
