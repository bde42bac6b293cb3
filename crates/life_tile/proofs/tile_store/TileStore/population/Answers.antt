use Rattle.std.proofs.Common.{◌≡◌, ℕ, ◌<◌, ◌-◌, ◌^◌, List, length, take, drop, sym, subst, ap, ◌∙◌}
use Rattle.std.specs.List.{sum_by}
use Rattle.life_plane.specs.declared.tile.Tile.{Tile}
use Rattle.life_slots.specs.Cells.{tile_count}
use Rattle.life_tile.specs.TileStores.{IsKept, members_of}
use Rattle.life_tile.specs.declared.tile_store.TileStore.{TileStore}
use Rattle.life_model.specs.Generation.{size}
use Rattle.life_cells.proofs.Sizes.{size_fits}
use Rattle.life_tile.proofs.Placed.{size_kept}
use Rattle.life_tile.proofs.Tallied.{sum_past_first}
use Rattle.life_tile.proofs.tile_store.TileStore.population.Goals as goal

size_of_rest : (store : TileStore) (tiles : List Tile) → IsKept store → tiles ≡ store.current.items → sum_by tile_count (take (length tiles - 1) (drop 1 tiles)) ≡ size (members_of store)
size_of_rest store tiles kept is =
    ap (λ (ts : List Tile). sum_by tile_count (take (length ts - 1) (drop 1 ts))) is
    ∙ sum_past_first store.current.items kept.whole.current_none ∙ sym (size_kept store kept)

pub count_cells-requires : goal.count_cells-requires
count_cells-requires c =
    subst (λ (n : ℕ). n < 2 ^ 64) (sym (size_of_rest c.args.self.now c.deref.result.now c.requires c.deref.ensures.value))
    (size_fits (members_of c.args.self.now) c.args.self.now.age c.requires.young c.requires.within)

pub returns : goal.returns
returns c = c.count_cells.ensures ∙ size_of_rest c.args.self.now c.deref.result.now c.requires c.deref.ensures.value
