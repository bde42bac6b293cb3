use Rattle.std.proofs.Common.{All, subst}
use Rattle.std.proofs.lemmas.List.Elements.{All-same}
use Rattle.life_model.specs.Generation.{cells}
use Rattle.life_model.proofs.Generations.{cells-from_list}
use Rattle.life_cells.specs.Limits.{IsWithin}
use Rattle.life_plane.proofs.list_plane.ListPlanePlane.age.Goals as goal

pub returns-clause-within : goal.returns-clause-within
returns-clause-within c =
    let items = c.self.inside.items.items in
    subst (λ p. All (IsWithin p.1) (cells p.0)) c.self.view_is
    (All-same (IsWithin c.self.inside.age) _ _ (cells-from_list items c.self.invariant.0) c.self.invariant.1)
