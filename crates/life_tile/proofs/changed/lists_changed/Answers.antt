use Rattle.std.proofs.Common.{◌≡◌, sym, subst₂, ap, ◌∙◌, arith}
use Rattle.life_model.specs.Cell.{Cell, opposite, plus}
use Rattle.life_model.specs.Generation.{from_list}
use Rattle.life_plane.specs.declared.tile.Tile.{Tile}
use Rattle.life_slots.specs.Slots.{tile_of}
use Rattle.life_tile.specs.Reach.{IsTileIn}
use Rattle.life_tile.proofs.Covered.{tile_by_members}
use Rattle.life_tile.proofs.changed.lists_changed.Goals as goal

pub returns-then-not-lists_tile : goal.returns-then-not-lists_tile
returns-then-not-lists_tile c = λ _ all.
    let by : Cell = plus c.args.to (opposite c.args.from) in
    let tile_is : c.tile_in-tile.result.now ≡ tile_of c.args.store.now.current.items c.loop-slot.slot =
    c.tile_in-tile.ensures ∙ ap (λ tiles. tile_of tiles c.loop-slot.slot) c.deref.ensures.value in
    c.lists_tile.ensures c.if-not-lists_tile.true
    (subst₂ (λ (t : Tile) (d : Cell). IsTileIn (from_list c.args.cells.now) t d by) (sym tile_is) (sym c.corner_in.ensures.is)
    (tile_by_members c.args.store.now c.requires.kept (from_list c.args.cells.now) by all c.loop-slot.slot (omega arith) (omega arith)))
