use Rattle.std.proofs.Common.{◌≡◌, w32, to_z, of_z, sym, ap, ◌∙◌, arith}
use Rattle.std.proofs.lemmas.Int.{ints}
use Rattle.life_plane.specs.declared.tile.Tile.{Tile}
use Rattle.life_plane.specs.Area.{tile_cell}
use Rattle.life_slots.specs.Slots.{slot_at, tile_of}
use Rattle.life_slots.proofs.Shown.{shown_state}
use Rattle.life_tile.proofs.covering.row_at.Goals as goal

pub returns : goal.returns
returns c = λ x inside.
    let whole = c.requires.kept.whole in
    let column_is : to_z w32 (of_z w32 c.args.column) ≡ c.args.column = omega (arith, ints) in
    let row_is : to_z w32 (of_z w32 c.args.row) ≡ c.args.row = omega (arith, ints) in
    ap (λ (t : Tile). tile_cell t x c.args.y)
    (c.tile_in.ensures ∙ ap (λ tiles. tile_of tiles c.slot_or_none.result) c.deref.ensures.value
    ∙ ap (tile_of c.args.store.now.current.items) (c.slot_or_none.ensures ∙ (λ i. slot_at c.args.store.now.index (column_is i, row_is i))))
    ∙ sym (shown_state c.args.store.now.index c.args.store.now.current.items whole.indexed.ordered whole.current_none c.args.column c.args.row x c.args.y inside c.requires.y)
