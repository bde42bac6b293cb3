use Rattle.std.proofs.Common.{sym, refl, ap, ◌∙◌}
use Rattle.life_model.specs.Generation.{cells, contains}
use Rattle.life_islands.proofs.Labelled.{listed_cell}
use Rattle.life_islands.proofs.labels.has_in_row.Goals as goal

pub returns-in-Some : goal.returns-in-Some
returns-in-Some c =
    let G = c.args.list.now in
    let it = c.in-Some.ensures.some in
    sym (ap (contains G) (sym it.1) ∙ listed_cell G (cells G) c.in-Some.field-0 refl it.0)

pub returns-in-None : goal.returns-in-None
returns-in-None c = sym c.in-None.ensures.none
