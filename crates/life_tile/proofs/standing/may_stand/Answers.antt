use Rattle.std.proofs.Common.{◌≡◌, pos, ◌+ℤ◌, ◌<◌, below_more, false-eqb, get_or, length, sym, subst₂, ap, ◌∙◌, arith}
use Rattle.life_model.specs.Cell.{Cell, origin, plus}
use Rattle.life_plane.specs.declared.tile.Tile.{Tile}
use Rattle.life_plane.specs.Area.{tile_cell}
use Rattle.life_slots.specs.Cells.{state_at}
use Rattle.life_slots.proofs.Places.{state_of_slot}
use Rattle.life_slots.specs.Slots.{place_of, tile_of}
use Rattle.life_tile.specs.Reach.{corner_at}
use Rattle.life_tile.specs.Standing.{HasNoneInTile}
use Rattle.life_tile.specs.TileStores.{members_of}
use Rattle.life_tile.proofs.Edges.{member_live}
use Rattle.life_tile.proofs.standing.may_stand.Goals as goal

pub may_stand_in_tile-requires-clause-shown : goal.may_stand_in_tile-requires-clause-shown
may_stand_in_tile-requires-clause-shown c = λ x y wide high.
    let whole = c.requires.kept.whole in
    let store = c.args.store.now in
    let tile_is : c.tile_in-tile.result.now ≡ tile_of store.current.items c.loop-slot.slot = c.tile_in-tile.ensures ∙ ap (λ tiles. tile_of tiles c.loop-slot.slot) c.deref.ensures.value in
    ap (λ (t : Tile). tile_cell t x y) tile_is
    ∙ sym (state_of_slot store.index store.slots.items whole.indexed store.current.items whole.current_none c.loop-slot.slot (omega arith) (omega arith) x y wide high)
    ∙ ap (λ (d : Cell). state_at (members_of store) (d.0 +ℤ pos x) (d.1 +ℤ pos y)) (sym c.corner_in.ensures.is)

pub loop-slot-preserved : goal.loop-slot-preserved
loop-slot-preserved c =
    below_more
    (λ k. 0 < k → HasNoneInTile c.args.reach (members_of c.args.store.now) c.args.cells.now c.first_of_longest_row-lead.result (tile_of c.args.store.now.current.items k) (corner_at (place_of c.args.store.now.slots.items k)))
    c.loop-slot.slot c.loop-slot.invariant
    (λ later.
    subst₂ (HasNoneInTile c.args.reach (members_of c.args.store.now) c.args.cells.now c.first_of_longest_row-lead.result)
    (c.tile_in-tile.ensures ∙ ap (λ tiles. tile_of tiles c.loop-slot.slot) c.deref.ensures.value) c.corner_in.ensures.is
    (c.may_stand_in_tile.ensures c.if-may_stand_in_tile.false))

pub returns : goal.returns
returns c = λ told d within all.
    let live = member_live c.args.store.now c.requires.kept (plus (get_or c.args.cells.now c.first_of_longest_row-lead.result origin) d) (all c.first_of_longest_row-lead.result origin c.first_of_longest_row-lead.ensures) in
    let here = live.here in
    let last = live.before in
    (c.loop-slot.invariant live.k (omega arith) live.later).none here.x here.y d here.wide here.high here.live within here.is all
