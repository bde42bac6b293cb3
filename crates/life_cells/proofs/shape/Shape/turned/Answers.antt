use Rattle.std.proofs.Common.{◌≤◌, sym, ap, subst, ◌∙◌}
use Rattle.life_model.specs.Box.{width, height}
use Rattle.life_model.specs.Symmetry.{normal, image_under}
use Rattle.life_cells.specs.Limits.{extent_limit}
use Rattle.life_cells.specs.Orients.{orientation}
use Rattle.life_cells.proofs.Boxes.{all_in_field, all_turned, from_list-turned, turned_width, turned_height}
use Rattle.life_cells.proofs.shape.Shape.turned.Goals as goal

pub from_ordered-requires-clause-placed : goal.from_ordered-requires-clause-placed
from_ordered-requires-clause-placed c =
    let e = c.as_slice.ensures in
    c.put_in_order.ensures.placed
    (all_turned (orientation c.args.orient) _ _ c.in_ok-cells.ensures (all_in_field c.self.inside.list _ c.self.invariant e.cells e.placed))

pub of-requires-clause-wide : goal.of-requires-clause-wide
of-requires-clause-wide c =
    let e = c.as_slice.ensures in
    let m = orientation c.args.orient in
    let same = c.from_ordered.ensures ∙ c.put_in_order.ensures.same ∙ from_list-turned c.self.inside.list m _ _ e.cells c.in_ok-cells.ensures in
    subst (λ G. width G ≤ extent_limit) (sym same) (turned_width c.self.inside.list m _ c.self.invariant e.cells e.placed)

pub of-requires-clause-high : goal.of-requires-clause-high
of-requires-clause-high c =
    let e = c.as_slice.ensures in
    let m = orientation c.args.orient in
    let same = c.from_ordered.ensures ∙ c.put_in_order.ensures.same ∙ from_list-turned c.self.inside.list m _ _ e.cells c.in_ok-cells.ensures in
    subst (λ G. height G ≤ extent_limit) (sym same) (turned_height c.self.inside.list m _ c.self.invariant e.cells e.placed)

pub returns : goal.returns
returns c =
    let e = c.as_slice.ensures in
    let m = orientation c.args.orient in
    let same = c.from_ordered.ensures ∙ c.put_in_order.ensures.same ∙ from_list-turned c.self.inside.list m _ _ e.cells c.in_ok-cells.ensures in
    c.in_ok-shape.ensures.shape ∙ ap normal (same ∙ ap (λ G. image_under G m) c.self.view_is)
