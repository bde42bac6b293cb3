use Rattle.std.proofs.Common.{◌≡◌, ℕ, ◌≤◌, pos, true, List, [], ◌∷◌, ◌++◌, length, sym, subst, ap, ◌∙◌}
use Rattle.std.specs.BTreeMap.{IsOrdered}
use Rattle.life_cells.specs.Limits.{age_limit}
use Rattle.life_plane.specs.declared.tile.Tile.{Tile}
use Rattle.life_slots.specs.Places.{place_cmp}
use Rattle.life_slots.specs.declared.bands.Bands.{Bands}
use Rattle.life_slots.specs.declared.slot.Slot.{Slot}
use Rattle.life_slots.specs.Slots.{Index, empty_tile}
use Rattle.life_tile.specs.TileStores.{all_bands, no_bands}
use Rattle.life_tile.proofs.Put.{kept_new, members_new}
use Rattle.life_tile.proofs.tile_store.TileStore.new.Goals as goal

abbrev first : Slot
first = record { place = (pos 0, pos 0); links = 0 ∷ 0 ∷ 0 ∷ 0 ∷ 0 ∷ 0 ∷ 0 ∷ 0 ∷ 0 ∷ [] }

module _ (c : goal.After-append) where
  index_is : c.append.new.self.index ≡ c.new.result
  index_is = c.append.ensures.index ∙ c.reserve_one.ensures.index

  none : c.append.new.self.index.entries ≡ []
  none = ap (λ (m : Index). m.entries) index_is ∙ c.new.ensures.empty

  ordered : IsOrdered place_cmp c.append.new.self.index
  ordered = subst (λ (m : Index). IsOrdered place_cmp m) (sym index_is) c.new.ensures.ordered

  slots : c.append.new.self.slots.items ≡ first ∷ []
  slots = c.append.ensures.slots ∙ ap (λ (ss : List Slot). ss ++ first ∷ []) (c.reserve_one.ensures.alike.slots ∙ c.new-2.ensures.items)

  current : c.append.new.self.current.items ≡ empty_tile ∷ []
  current = c.append.ensures.current ∙ ap (λ (ts : List Tile). ts ++ empty_tile ∷ []) (c.reserve_one.ensures.alike.current ∙ c.in_ok-current.ensures.items)

  previous : c.append.new.self.previous.items ≡ empty_tile ∷ []
  previous = c.append.ensures.previous ∙ ap (λ (ts : List Tile). ts ++ empty_tile ∷ []) (c.reserve_one.ensures.alike.previous ∙ c.in_ok-previous.ensures.items)

  active : c.append.new.self.active.items ≡ all_bands ∷ []
  active = c.append.ensures.active ∙ ap (λ (bs : List Bands). bs ++ all_bands ∷ []) (c.reserve_one.ensures.alike.active ∙ c.new-3.ensures.items)

  next_active : c.append.new.self.next_active.items ≡ no_bands ∷ []
  next_active = c.append.ensures.next_active ∙ ap (λ (bs : List Bands). bs ++ no_bands ∷ []) (c.reserve_one.ensures.alike.next_active ∙ c.new-4.ensures.items)

  young : c.append.new.self.age ≤ age_limit
  young = subst (λ (n : ℕ). n ≤ age_limit) (sym (c.append.ensures.age ∙ c.reserve_one.ensures.alike.age)) c.requires

  lacks_previous : c.append.new.self.lacks_previous ≡ true
  lacks_previous = c.append.ensures.lacks_previous ∙ c.reserve_one.ensures.alike.lacks_previous

pub returns-clause-kept : goal.returns-clause-kept
returns-clause-kept c = kept_new c.append.new.self first (none c) (ordered c) (slots c) (current c) (previous c) (active c) (next_active c) (young c) (lacks_previous c)

pub returns-clause-members : goal.returns-clause-members
returns-clause-members c = members_new c.append.new.self first (none c) (ordered c) (slots c) (current c) (previous c) (active c) (next_active c) (young c) (lacks_previous c)

pub returns-clause-one : goal.returns-clause-one
returns-clause-one c = ap (λ (ss : List Slot). length ss) (slots c)
