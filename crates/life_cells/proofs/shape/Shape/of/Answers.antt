use Rattle.std.proofs.Common.{T, All, sym, ap, subst, ◌∙◌}
use Rattle.life_model.specs.Generation.{from_list, is_rising}
use Rattle.life_model.specs.Symmetry.{corner, normal}
use Rattle.life_model.proofs.Generations.{cells-rise, from_list-cells}
use Rattle.life_cells.specs.Limits.{IsPlace}
use Rattle.life_cells.specs.NormalForms.{IsAhead, IsNormal}
use Rattle.life_cells.proofs.Boxes.{cells_ahead, cells-normal, corner-cells, normal_placed, normal_normal}
use Rattle.life_cells.proofs.shape.Shape.of.Goals as goal

pub moved_back-requires : goal.moved_back-requires
moved_back-requires c =
    subst (λ k. All (IsAhead k) c.as_slice-cells.result.now) (sym (c.corner-corner.ensures ∙ corner-cells _ _ c.as_slice-cells.ensures.cells))
    (subst (λ cs. All (IsAhead (corner c.args.list.now)) cs) (sym c.as_slice-cells.ensures.cells) (cells_ahead c.args.list.now c.requires.wide c.requires.high))

pub from_ordered-list-requires-clause-rising : goal.from_ordered-list-requires-clause-rising
from_ordered-list-requires-clause-rising c =
    subst (λ cs. T (is_rising cs)) (sym (cells-normal _ _ _ _ c.as_slice-cells.ensures.cells c.corner-corner.ensures c.in_ok-moved_back.ensures.moved)) (cells-rise (normal c.args.list.now))

pub from_ordered-list-requires-clause-placed : goal.from_ordered-list-requires-clause-placed
from_ordered-list-requires-clause-placed c =
    subst (λ cs. All IsPlace cs) (sym (cells-normal _ _ _ _ c.as_slice-cells.ensures.cells c.corner-corner.ensures c.in_ok-moved_back.ensures.moved)) (normal_placed c.args.list.now c.requires.wide c.requires.high)

pub invariant_of-result : goal.invariant_of-result
invariant_of-result c =
    let e = c.from_ordered-list.ensures ∙ ap from_list (cells-normal _ _ _ _ c.as_slice-cells.ensures.cells c.corner-corner.ensures c.in_ok-moved_back.ensures.moved) ∙ from_list-cells (normal c.args.list.now) in
    subst IsNormal (sym e) (normal_normal c.args.list.now)

pub returns-clause-shape : goal.returns-clause-shape
returns-clause-shape c =
    c.from_ordered-list.ensures ∙ ap from_list (cells-normal _ _ _ _ c.as_slice-cells.ensures.cells c.corner-corner.ensures c.in_ok-moved_back.ensures.moved) ∙ from_list-cells (normal c.args.list.now)

pub returns-clause-corner : goal.returns-clause-corner
returns-clause-corner c = c.corner-corner.ensures ∙ corner-cells _ _ c.as_slice-cells.ensures.cells
