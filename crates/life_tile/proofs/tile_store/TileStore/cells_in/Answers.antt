use Rattle.std.proofs.Common.{◌≡◌, ◌||◌, List, sym, subst, ap, ◌∙◌}
use Rattle.std.specs.List.{list_any}
use Rattle.life_model.specs.Cell.{same_cell}
use Rattle.life_model.specs.Generation.{Generation, contains, from_list}
use Rattle.life_model.proofs.Generations.{contains-from_list, same_members}
use Rattle.life_cells.specs.Limits.{IsWithin}
use Rattle.life_plane.specs.declared.tile.Tile.{Tile}
use Rattle.life_slots.specs.Cells.{tiles_cells}
use Rattle.life_slots.specs.Seats.{has_tile}
use Rattle.life_slots.proofs.Inserted.{all_listed}
use Rattle.life_slots.specs.Slots.{placed_tiles, generation_shown, IsReached}
use Rattle.life_tile.specs.TileStores.{members_of}
use Rattle.life_tile.proofs.Kept.{inside_from_reached}
use Rattle.life_tile.proofs.tile_store.TileStore.cells_in.Goals as goal

pub seats_by_rows-requires-clause-inside : goal.seats_by_rows-requires-clause-inside
seats_by_rows-requires-clause-inside c = λ p k is.
    inside_from_reached c.args.self.now.age p c.requires.young
    (subst (IsReached c.args.self.now.age) (c.requires.whole.indexed.placed p k is)
    (c.requires.reached k (c.requires.whole.indexed.later p k is) (c.requires.whole.indexed.inside p k is)))

module _ (c : goal.After-drop-seats-2) where
  members : from_list c.push_seats.new.cells.items ≡ members_of c.args.self.now
  unfolding generation_shown
  members =
      same_members _ _
      (λ q.
      contains-from_list c.push_seats.new.cells.items q
      ∙ c.in_ok-push_seats.ensures q
      ∙ (λ i. list_any (same_cell q) (c.clear.ensures.items i) || list_any (has_tile (c.deref-3.ensures.value i) q) (c.deref-2.ensures.value i))
      ∙ ap (λ (ts : List Tile). list_any (has_tile ts q) c.in_ok-seats.seats.items) (sym c.deref.ensures.value)
      ∙ c.in_ok-seats.ensures.cells q
      ∙ ap (λ (ts : List Tile). list_any (same_cell q) (tiles_cells (placed_tiles c.args.self.now.index.entries ts))) c.deref.ensures.value
      ∙ sym (contains-from_list (tiles_cells (placed_tiles c.args.self.now.index.entries c.args.self.now.current.items)) q))

pub returns-clause-members : goal.returns-clause-members
returns-clause-members c = members c

pub returns-clause-within : goal.returns-clause-within
returns-clause-within c =
    all_listed (IsWithin c.args.self.now.age) (members_of c.args.self.now) c.push_seats.new.cells.items
    (λ q. sym (ap (λ (G : Generation). contains G q) (members c)) ∙ contains-from_list c.push_seats.new.cells.items q)
    c.requires.within
