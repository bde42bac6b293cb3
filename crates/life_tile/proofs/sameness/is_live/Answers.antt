use Rattle.std.proofs.Common.{◌≡◌, pos, ◌+ℤ◌, w32, to_z, of_z, sym, ap, ◌∙◌, arith}
use Rattle.std.proofs.lemmas.Int.{ints}
use Rattle.life_model.specs.Generation.{contains}
use Rattle.life_plane.specs.declared.tile.Tile.{Tile}
use Rattle.life_plane.specs.Flags.{as_bit}
use Rattle.life_plane.specs.Area.{tile_cell}
use Rattle.life_slots.specs.Places.{start_at}
use Rattle.life_slots.specs.Slots.{slot_at, tile_of}
use Rattle.life_slots.proofs.Shown.{shown_state}
use Rattle.life_slots.proofs.Splits.{same_flag}
use Rattle.life_tile.specs.TileStores.{members_of}
use Rattle.life_tile.proofs.sameness.is_live.Goals as goal

pub returns : goal.returns
returns c =
    let reach = c.requires.reach in
    let whole = c.requires.kept.whole in
    let small_x = c.split-column.ensures.small in
    let small_y = c.split-row.ensures.small in
    let column_is : to_z w32 (of_z w32 c.split-column.result.0) ≡ c.split-column.result.0 = omega (arith, ints, c.split-column.ensures.is, reach.west, reach.east) in
    let row_is : to_z w32 (of_z w32 c.split-row.result.0) ≡ c.split-row.result.0 = omega (arith, ints, c.split-row.ensures.is, reach.north, reach.south) in
    let across : c.args.cell.0 ≡ (start_at c.split-column.result.0 +ℤ pos c.split-column.result.1) = omega (arith, ints, c.split-column.ensures.is, reach.west, reach.east) in
    let down : c.args.cell.1 ≡ (start_at c.split-row.result.0 +ℤ pos c.split-row.result.1) = omega (arith, ints, c.split-row.ensures.is, reach.north, reach.south) in
    let slot_is : c.slot_or_none-slot.result ≡ slot_at c.args.store.now.index (c.split-column.result.0, c.split-row.result.0) =
    c.slot_or_none-slot.ensures ∙ (λ i. slot_at c.args.store.now.index (column_is i, row_is i)) in
    same_flag _ _
    (c.get.ensures
    ∙ ap (λ (t : Tile). tile_cell t c.split-column.result.1 c.split-row.result.1) (c.tile_in.ensures ∙ ap (λ tiles. tile_of tiles c.slot_or_none-slot.result) c.deref.ensures.value)
    ∙ ap (λ k. tile_cell (tile_of c.args.store.now.current.items k) c.split-column.result.1 c.split-row.result.1) slot_is
    ∙ sym (shown_state c.args.store.now.index c.args.store.now.current.items whole.indexed.ordered whole.current_none c.split-column.result.0 c.split-row.result.0 c.split-column.result.1 c.split-row.result.1 small_x small_y)
    ∙ sym (λ i. as_bit (contains (members_of c.args.store.now) (across i, down i))))
