use Rattle.std.proofs.Common.{◌≡◌, List, length, refl, sym, subst, ap, ◌∙◌, arith}
use Rattle.std.specs.Vec.{with_items}
use Rattle.life_plane.specs.declared.tile.Tile.{Tile}
use Rattle.life_slots.specs.declared.bands.Bands.{Bands}
use Rattle.life_slots.specs.declared.slot.Slot.{Slot}
use Rattle.life_slots.specs.Slots.{tile_of}
use Rattle.life_slots.specs.Work.{IsMarkedNear}
use Rattle.life_tile.proofs.Begun.{begun_fresh, begun_going}
use Rattle.life_tile.proofs.Kept.{written_back}
use Rattle.life_tile.proofs.tile_store.TileStore.begin.Goals as goal

pub returns-then-self : goal.returns-then-self
returns-then-self c =
    let cleared : (with_items c.args.self.now.previous c.clear_all.new.tiles).items ≡ c.clear_all.new.tiles =
    written_back c.args.self.now.previous.len c.clear_all.new.tiles c.args.self.now.previous.items (c.clear_all.ensures.length ∙ c.deref_mut.ensures.len) in
    let marked : (with_items c.args.self.now.next_active c.mark_near.new.marks).items ≡ c.mark_near.new.marks =
    written_back c.args.self.now.next_active.len c.mark_near.new.marks c.args.self.now.next_active.items (c.mark_near.ensures.length ∙ c.deref_mut-then-self.ensures.len) in
    let alts : length c.deref_mut.result.now ≡ length c.args.self.now.slots.items =
    ap (λ (ts : List Tile). length ts) c.deref_mut.ensures.value ∙ c.requires.whole.previous_length in
    let slots : length c.deref.result.now ≡ length c.args.self.now.slots.items = ap (λ (ss : List Slot). length ss) c.deref.ensures.value in
    begun_fresh c.args.self.now _ c.requires
    (ap (λ (bs : List Bands). length bs) marked ∙ c.mark_near.ensures.length ∙ ap (λ (bs : List Bands). length bs) c.deref_mut-then-self.ensures.value ∙ c.requires.whole.next_active_length)
    refl
    (ap (λ (ts : List Tile). length ts) cleared ∙ c.clear_all.ensures.length ∙ alts)
    (c.copy_from_slice.ensures.items ∙ c.deref-then-self-2.ensures.value)
    (λ k inside. ap (λ (ts : List Tile). tile_of ts k) cleared ∙ c.clear_all.ensures.empty k (omega arith))
    (subst (λ (bs : List Bands). IsMarkedNear c.args.self.now.slots.items c.args.self.now.current.items bs (length c.args.self.now.slots.items)) (sym marked)
    (subst (λ (ss : List Slot). IsMarkedNear ss c.args.self.now.current.items c.mark_near.new.marks (length ss)) c.deref.ensures.value
    (subst (λ (ts : List Tile). IsMarkedNear c.deref.result.now ts c.mark_near.new.marks (length c.deref.result.now)) c.deref-then-self.ensures.value c.mark_near.ensures.near)))

pub returns-else-self : goal.returns-else-self
returns-else-self c =
    let marked : (with_items c.args.self.now.next_active c.mark_all.new.marks).items ≡ c.mark_all.new.marks =
    written_back c.args.self.now.next_active.len c.mark_all.new.marks c.args.self.now.next_active.items (c.mark_all.ensures.length ∙ c.deref_mut-else-self.ensures.len) in
    begun_going c.args.self.now _ c.requires
    (ap (λ (bs : List Bands). length bs) marked ∙ c.mark_all.ensures.length ∙ ap (λ (bs : List Bands). length bs) c.deref_mut-else-self.ensures.value ∙ c.requires.whole.next_active_length)
    c.if-self.false refl
