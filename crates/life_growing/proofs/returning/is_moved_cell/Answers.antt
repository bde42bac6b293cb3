use Rattle.std.proofs.Common.{refl, sym, ap, ◌∙◌}
use Rattle.life_model.specs.Cell.{plus}
use Rattle.life_model.specs.Generation.{cells, contains}
use Rattle.life_model.proofs.Symmetries.{contains-moved}
use Rattle.life_ash.proofs.Finding.{of_none}
use Rattle.life_islands.proofs.Labelled.{listed_cell}
use Rattle.life_growing.proofs.returning.is_moved_cell.Goals as goal

pub returns-in-Some : goal.returns-in-Some
returns-in-Some c =
    let E = c.args.cells.now in
    let at = c.in-Some.ensures.some in
    sym (contains-moved E c.args.by c.args.place ∙ ap (λ d. contains E (plus c.args.place d)) (sym c.back.ensures.back)
    ∙ ap (contains E) (sym c.moved.ensures ∙ sym at.1) ∙ listed_cell E (cells E) c.in-Some.field-0 refl at.0)

pub returns-in-None : goal.returns-in-None
returns-in-None c =
    let E = c.args.cells.now in
    sym (contains-moved E c.args.by c.args.place ∙ ap (λ d. contains E (plus c.args.place d)) (sym c.back.ensures.back)
    ∙ ap (contains E) (sym c.moved.ensures) ∙ of_none c.in-None.is c.index_near.ensures.none)
