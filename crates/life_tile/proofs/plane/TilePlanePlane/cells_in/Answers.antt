use Rattle.life_plane.proofs.Later.{place_from_within}
use Rattle.life_tile.proofs.plane.TilePlanePlane.cells_in.Goals as goal

pub from_ordered-requires-clause-placed : goal.from_ordered-requires-clause-placed
from_ordered-requires-clause-placed c =
    c.put_in_order.ensures.placed (λ k d below. place_from_within c.self.inside.store.age _ c.self.invariant.young (c.in_ok-cells.ensures.within k d below))
