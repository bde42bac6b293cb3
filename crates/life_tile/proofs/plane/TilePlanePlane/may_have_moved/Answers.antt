use Rattle.std.proofs.Common.{ℕ, sym, subst}
use Rattle.life_model.specs.Generation.{Generation}
use Rattle.life_plane.specs.Offsets.{IsMovedInto}
use Rattle.life_tile.specs.TileStores.{members_of}
use Rattle.life_tile.proofs.Listed.{all_members}
use Rattle.life_tile.proofs.plane.TilePlanePlane.may_have_moved.Goals as goal

pub returns : goal.returns
returns c = λ no d within into.
    c.may_stand.ensures no d within
    (all_members c.args.list.now (members_of c.self.inside.store) c.as_slice.result.now d c.as_slice.ensures.cells
    (subst (λ (v : Generation × ℕ). IsMovedInto c.args.list.now v.0 d) (sym c.self.view_is) into))
