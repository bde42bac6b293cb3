use Rattle.std.proofs.Common.{List, length, subst₂}
use Rattle.life_plane.specs.declared.tile.Tile.{Tile}
use Rattle.life_slots.specs.declared.slot.Slot.{Slot}
use Rattle.life_slots.specs.Ends.{AreEnds, IsLiveAt}
use Rattle.life_tile.proofs.Edges.{member_ends}
use Rattle.life_tile.proofs.tile_store.TileStore.ends.Goals as goal

pub returns : goal.returns
returns c =
    member_ends c.args.self.now c.requires c.ends_of.result
    (subst₂ (λ (ss : List Slot) (ts : List Tile). AreEnds (IsLiveAt ss ts (length ss)) c.ends_of.result) c.deref.ensures.value c.deref-2.ensures.value c.ends_of.ensures)
