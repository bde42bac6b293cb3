use Rattle.std.proofs.Common.{◌≡◌, ◌+◌, false, length, sym, subst, ◌∙◌}
use Rattle.life_slots.specs.Slots.{generation_shown}
use Rattle.life_slots.specs.Work.{IsWorkedOut}
use Rattle.life_tile.specs.declared.tile_store.TileStore.{TileStore}
use Rattle.life_tile.specs.TileStores.{IsKept}
use Rattle.life_tile.proofs.Kept.{written_back}
use Rattle.life_tile.proofs.Advanced.{worked_at, kept_next, members_next}
use Rattle.life_tile.proofs.tile_store.TileStore.advance.Goals as goal

module _ (c : goal.After-self-4-1) where
  same : c.begin.new.self ≡ record c.args.self.now { previous = c.begin.new.self.previous; active = c.begin.new.self.active; next_active = c.begin.new.self.next_active }
  same = c.begin.ensures.same

  worked : IsWorkedOut c.args.self.now.slots.items (record { current = c.args.self.now.current.items; active = c.begin.new.self.active.items; rule = c.args.self.now.rule; before = c.begin.new.self.previous.items; after = c.next_tiles.new.previous; marks_before = c.begin.new.self.next_active.items; marks_after = c.next_tiles.new.marks; done = length c.args.self.now.slots.items })
  worked =
      worked_at c.deref.result.now c.args.self.now.slots.items c.deref-2.result.now c.args.self.now.current.items c.deref-3.result.now c.begin.new.self.active.items
      c.begin.new.self.rule c.args.self.now.rule c.deref_mut.result.now c.begin.new.self.previous.items c.next_tiles.new.previous c.deref_mut-2.result.now c.begin.new.self.next_active.items c.next_tiles.new.marks
      (c.deref.ensures.value ∙ (λ i. (same i).slots.items)) (c.deref-2.ensures.value ∙ (λ i. (same i).current.items)) c.deref-3.ensures.value (λ i. (same i).rule)
      c.deref_mut.ensures.value c.deref_mut-2.ensures.value c.next_tiles.ensures

  current_is : c.swap.new.x.items ≡ c.next_tiles.new.previous
  current_is = (λ i. (c.swap.ensures.x_after i).items) ∙ written_back c.begin.new.self.previous.len c.next_tiles.new.previous c.begin.new.self.previous.items (c.next_tiles.ensures.length_after ∙ c.deref_mut.ensures.len)

  previous_is : c.swap.new.y.items ≡ c.args.self.now.current.items
  previous_is = (λ i. (c.swap.ensures.y_after i).items) ∙ (λ i. (same i).current.items)

  active_is : c.swap-2.new.x.items ≡ c.next_tiles.new.marks
  active_is = (λ i. (c.swap-2.ensures.x_after i).items) ∙ written_back c.begin.new.self.next_active.len c.next_tiles.new.marks _ (c.next_tiles.ensures.length_marked ∙ c.deref_mut-2.ensures.len)

  next_active_length : length c.swap-2.new.y.items ≡ length c.args.self.now.slots.items
  next_active_length = (λ i. length (c.swap-2.ensures.y_after i).items) ∙ c.begin.ensures.active_length

pub returns-clause-kept : goal.returns-clause-kept
returns-clause-kept c =
    subst (λ (z : TileStore). IsKept (record z { current = c.swap.new.x; previous = c.swap.new.y; active = c.swap-2.new.x; next_active = c.swap-2.new.y; lacks_previous = false; age = z.age + 1 })) (sym (same c))
    (kept_next c.args.self.now c.begin.new.self (record c.args.self.now { current = c.swap.new.x; previous = c.swap.new.y; active = c.swap-2.new.x; next_active = c.swap-2.new.y })
    c.next_tiles.new.previous c.next_tiles.new.marks c.requires.kept c.requires.grown c.requires.young c.begin.ensures (worked c) (current_is c) (previous_is c) (active_is c) (next_active_length c))

pub returns-clause-members : goal.returns-clause-members
returns-clause-members c =
    (λ i. generation_shown (same c i).index c.swap.new.x.items)
    ∙ members_next c.args.self.now c.begin.new.self (record c.args.self.now { current = c.swap.new.x; previous = c.swap.new.y; active = c.swap-2.new.x; next_active = c.swap-2.new.y })
    c.next_tiles.new.previous c.next_tiles.new.marks c.requires.kept c.requires.grown c.requires.young c.begin.ensures (worked c) (current_is c) (previous_is c) (active_is c) (next_active_length c)
