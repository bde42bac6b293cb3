use Rattle.std.proofs.Common.{sym, subst, ap, ◌∙◌}
use Rattle.life_slots.specs.Places.{IsInside}
use Rattle.life_slots.specs.Slots.{neighbour_at, place_of, tile_of, IsReached}
use Rattle.life_tile.proofs.Kept.{inside_from_reached, reached_beyond}
use Rattle.life_tile.proofs.tile_store.TileStore.grow_towards.Goals as goal

pub neighbour-requires-clause-inside : goal.neighbour-requires-clause-inside
neighbour-requires-clause-inside c =
    subst IsInside (sym c.place.ensures)
    (inside_from_reached c.args.self.now.age (place_of c.args.self.now.slots.items c.args.slot) c.requires.kept.young (c.requires.kept.reached c.args.slot c.requires.later c.requires.slot))

pub add-requires-clause-reached : goal.add-requires-clause-reached
add-requires-clause-reached c =
    subst (IsReached c.args.self.now.age) (sym (c.neighbour.ensures ∙ ap (λ p. neighbour_at p c.args.direction) c.place.ensures))
    (reached_beyond c.args.self.now c.requires.kept c.args.slot c.args.direction c.requires.later c.requires.slot c.requires.direction
    (c.reaches.ensures.live (tile_of c.args.self.now.current.items c.args.slot) c.requires.rim c.if-reaches.true))
