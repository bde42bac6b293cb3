use Rattle.std.proofs.Common.{◌≡◌, true≢false, refl, sym, subst₂, ap, ◌∙◌, arith}
use Rattle.life_model.specs.Cell.{Cell, plus, opposite}
use Rattle.life_plane.specs.declared.tile.Tile.{Tile}
use Rattle.life_slots.specs.Slots.{tile_of}
use Rattle.life_tile.specs.Reach.{IsTileIn}
use Rattle.life_tile.specs.TileStores.{members_of}
use Rattle.life_tile.proofs.Covered.{tile_by_members, members_by_tiles, tiles_more}
use Rattle.life_tile.proofs.covering.has_store.Goals as goal

pub returns-then-not-has_tile : goal.returns-then-not-has_tile
returns-then-not-has_tile c =
    let by : Cell = plus c.args.to (opposite c.args.from) in
    let tile_is : c.tile_in-tile.result.now ≡ tile_of c.args.other.now.current.items c.loop-slot.slot = c.tile_in-tile.ensures ∙ ap (λ tiles. tile_of tiles c.loop-slot.slot) c.deref.ensures.value in (
      λ never. absurd (true≢false (sym never)),
      λ all.
          absurd
          (true≢false
          (sym
          (c.has_tile.ensures.1
          (subst₂ (λ (t : Tile) (d : Cell). IsTileIn (members_of c.args.store.now) t d by) (sym tile_is) (sym c.corner_in.ensures.is)
          (tile_by_members c.args.other.now c.requires.other (members_of c.args.store.now) by all c.loop-slot.slot (omega arith) (omega arith))))
          ∙ c.if-not-has_tile.true)),
    )

pub loop-slot-preserved : goal.loop-slot-preserved
loop-slot-preserved c =
    let by : Cell = plus c.args.to (opposite c.args.from) in
    let tile_is : c.tile_in-tile.result.now ≡ tile_of c.args.other.now.current.items c.loop-slot.slot = c.tile_in-tile.ensures ∙ ap (λ tiles. tile_of tiles c.loop-slot.slot) c.deref.ensures.value in
    tiles_more c.args.other.now c.requires.other (members_of c.args.store.now) by c.loop-slot.slot c.loop-slot.invariant
    (subst₂ (λ (t : Tile) (d : Cell). IsTileIn (members_of c.args.store.now) t d by) tile_is c.corner_in.ensures.is (c.has_tile.ensures.0 c.if-not-has_tile.false))

pub returns : goal.returns
returns c =
    let by : Cell = plus c.args.to (opposite c.args.from) in (
      λ holds. members_by_tiles c.args.other.now c.requires.other (members_of c.args.store.now) by (λ k later inside. c.loop-slot.invariant k later (omega arith)),
      λ all. refl,
    )
