use Rattle.std.proofs.Common.{◌≡◌, All, List, subst, sym, ◌∙◌}
use Rattle.std.proofs.lemmas.List.Elements.{All-same}
use Rattle.life_model.specs.Cell.{Cell}
use Rattle.life_model.specs.Generation.{cells, from_list}
use Rattle.life_model.proofs.Cells.{pair}
use Rattle.life_model.proofs.Generations.{cells-from_list}
use Rattle.life_cells.specs.Limits.{IsWithin}
use Rattle.life_plane.proofs.list_plane.ListPlanePlane.copy.Goals as goal

pub returns-clause-within : goal.returns-clause-within
returns-clause-within c =
    let items = c.self.inside.items.items in
    let same : c.in_ok-to_vec.field-0.items ≡ items = c.in_ok-to_vec.ensures.items_if_clones_equal (λ x y e. pair e.0 e.1) ∙ c.as_slice.ensures.value in
    subst (λ (xs : List Cell). All (IsWithin c.self.inside.age) (cells (from_list xs))) (sym same)
    (All-same (IsWithin c.self.inside.age) _ _ (cells-from_list items c.self.invariant.0) c.self.invariant.1)
