use Rattle.std.proofs.Common.{◌≡◌, ◌≢◌, ℕ, ◌<◌, inl, inr, ⊎_elim, true, length, subst, sym, ap, ◌∙◌, arith}
use Rattle.std.proofs.lemmas.Bool.{cases_eq, cases_lt}
use Rattle.life_plane.specs.Area.{tile_cell}
use Rattle.life_model.specs.Generation.{Generation}
use Rattle.life_cells.specs.Limits.{IsWithin}
use Rattle.life_slots.specs.Slots.{tile_of}
use Rattle.life_tile.specs.declared.tile_store.TileStore.{TileStore}
use Rattle.life_tile.specs.TileStores.{IsKept, IsSameBut, IsTileAt, cell_of, members_of}
use Rattle.life_tile.proofs.Kept.{members_extended}
use Rattle.life_tile.proofs.Copied.{kept_shown, tile_at, same_but}
use Rattle.life_tile.proofs.tile_store.TileStore.put_tile.Goals as goal

module _ (c : goal.After-show) where
  lacks_previous : c.slot_for.new.self.lacks_previous ≡ true
  lacks_previous = c.slot_for.ensures.extended.lacks_previous ∙ c.requires.lacks_previous

  within : (x y : ℕ) → x < 64 → y < 64 → tile_cell c.args.tile.now x y ≡ 1 → IsWithin c.slot_for.new.self.age (cell_of c.args.place x y)
  within x y wide high live = subst (λ (n : ℕ). IsWithin n (cell_of c.args.place x y)) (sym c.slot_for.ensures.extended.age) (c.requires.within x y wide high live)

pub returns-clause-kept : goal.returns-clause-kept
returns-clause-kept c =
    subst IsKept (sym c.show.ensures.same)
    (kept_shown c.slot_for.new.self c.show.new.self c.in_ok-slot.slot c.args.tile.now c.args.place c.slot_for.ensures.kept (lacks_previous c) c.in_ok-slot.ensures.slot
    c.show.ensures.count c.show.ensures.apart c.show.ensures.here (within c))

pub returns-clause-tile : goal.returns-clause-tile
returns-clause-tile c =
    subst (λ (G : Generation). IsTileAt G c.args.tile.now c.args.place) (sym (ap members_of c.show.ensures.same))
    (tile_at c.slot_for.new.self c.show.new.self c.in_ok-slot.slot c.args.tile.now c.args.place c.slot_for.ensures.kept (lacks_previous c) c.in_ok-slot.ensures.slot
    c.show.ensures.count c.show.ensures.apart c.show.ensures.here (within c))

pub returns-clause-others : goal.returns-clause-others
returns-clause-others c =
    subst (λ (G : Generation). IsSameBut G (members_of c.show.new.self) c.args.place)
    (members_extended c.args.self.now c.slot_for.new.self c.requires.kept.whole c.slot_for.ensures.kept.whole c.slot_for.ensures.extended)
    (subst (λ (G : Generation). IsSameBut (members_of c.slot_for.new.self) G c.args.place) (sym (ap members_of c.show.ensures.same))
    (same_but c.slot_for.new.self c.show.new.self c.in_ok-slot.slot c.args.tile.now c.args.place c.slot_for.ensures.kept (lacks_previous c) c.in_ok-slot.ensures.slot
    c.show.ensures.count c.show.ensures.apart c.show.ensures.here (within c)))

pub returns-clause-tiles : goal.returns-clause-tiles
returns-clause-tiles c =
    let count : length c.show.new.self.slots.items ≡ length c.slot_for.new.self.slots.items = ap (λ (s : TileStore). length s.slots.items) c.show.ensures.same in
    record {
      each = λ k inside.
          ⊎_elim
          (λ (same : k ≡ c.in_ok-slot.slot). inl (ap (tile_of c.show.new.self.current.items) same ∙ c.show.ensures.here))
          (λ (other : k ≢ c.in_ok-slot.slot).
          ⊎_elim
          (λ (less : k < length c.args.self.now.slots.items). inr (less, c.show.ensures.apart k other ∙ c.slot_for.ensures.extended.current k less))
          (λ past. absurd (other (c.in_ok-slot.ensures.made k past (omega arith))))
          (cases_lt k (length c.args.self.now.slots.items)))
          (cases_eq k c.in_ok-slot.slot);
    }

pub returns-clause-count : goal.returns-clause-count
returns-clause-count c = λ absent. ap (λ (s : TileStore). length s.slots.items) c.show.ensures.same ∙ c.in_ok-slot.ensures.count absent
