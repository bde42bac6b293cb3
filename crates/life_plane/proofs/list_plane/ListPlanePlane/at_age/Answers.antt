use Rattle.std.proofs.Common.{◌∙◌, All, ap, subst, sym}
use Rattle.life_model.specs.Generation.{Generation, cells, from_list}
use Rattle.life_model.proofs.Cells.{pair}
use Rattle.life_model.proofs.Generations.{from_list-cells}
use Rattle.life_cells.specs.Limits.{IsWithin}
use Rattle.life_plane.proofs.list_plane.ListPlanePlane.at_age.Goals as goal

pub returns-clause-cells : goal.returns-clause-cells
returns-clause-cells c =
    ap from_list (c.in_ok-items.ensures.items_if_clones_equal (λ x y e. pair e.0 e.1) ∙ c.as_slice.ensures.cells)
    ∙ from_list-cells c.args.list.now

pub returns-clause-within : goal.returns-clause-within
returns-clause-within c = subst (λ (G : Generation). All (IsWithin c.args.age) (cells G)) (sym (returns-clause-cells c)) c.requires.within
