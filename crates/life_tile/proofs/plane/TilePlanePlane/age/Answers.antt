use Rattle.std.proofs.Common.{ℕ, All, subst}
use Rattle.life_model.specs.Generation.{Generation, cells}
use Rattle.life_model.proofs.Generations.{contains-cells}
use Rattle.life_cells.specs.Limits.{IsWithin}
use Rattle.life_slots.proofs.Inserted.{all_listed}
use Rattle.life_tile.specs.TileStores.{members_of}
use Rattle.life_tile.proofs.plane.TilePlanePlane.age.Goals as goal

pub returns-clause-within : goal.returns-clause-within
returns-clause-within c =
    let here : All (IsWithin c.self.inside.store.age) (cells (members_of c.self.inside.store)) =
    all_listed (IsWithin c.self.inside.store.age) (members_of c.self.inside.store) (cells (members_of c.self.inside.store)) (contains-cells (members_of c.self.inside.store)) c.self.invariant.within in
    subst (λ (v : Generation × ℕ). All (IsWithin v.1) (cells v.0)) c.self.view_is here
