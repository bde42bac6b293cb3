use Rattle.std.proofs.Common.{◌≡◌, Bool, List, sym, ap, ◌∙◌}
use Rattle.std.specs.Cmp.Lexicographic.{pointwise}
use Rattle.life_model.specs.Cell.{Cell}
use Rattle.life_model.specs.Generation.{Generation, cells}
use Rattle.life_cells.specs.Alike.{same_places, same_cells, same_cells-is}
use Rattle.life_cells.proofs.shape.ShapePartialEq.eq.Goals as goal

of_lists : (r : Bool) (cs ds : List Cell) (G H : Generation) → r ≡ pointwise same_places cs ds → cs ≡ cells G → ds ≡ cells H → r ≡ same_cells G H
of_lists r cs ds G H e p q = e ∙ (λ i. pointwise same_places (p i) (q i))

pub returns-clause-value : goal.returns-clause-value
returns-clause-value c =
    of_lists _ _ _ c.args.self.now c.args.other.now c.eq.ensures (c.as_slice.ensures.cells ∙ ap cells c.self.view_is) (c.as_slice-2.ensures.cells ∙ ap cells c.other.view_is)

pub returns-clause-same : goal.returns-clause-same
returns-clause-same c =
    let e = of_lists _ _ _ c.args.self.now c.args.other.now c.eq.ensures (c.as_slice.ensures.cells ∙ ap cells c.self.view_is) (c.as_slice-2.ensures.cells ∙ ap cells c.other.view_is) in
    let d = same_cells-is c.args.self.now c.args.other.now in
    (λ h. d.0 (sym e ∙ h), λ h. e ∙ d.1 h)
