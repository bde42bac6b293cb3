use Rattle.std.proofs.Common.{ap, ◌∙◌, arith, rules, FitsSigned, w32}
use Rattle.std.specs.List.{list_any}
use Rattle.std.proofs.lemmas.Int.{ints}
use Rattle.life_classes.specs.Nearness.{are_within}
use Rattle.life_classes.proofs.Reached.{row_within}
use Rattle.life_classes.proofs.RowsRise.{any_by_filter}
use Rattle.life_classes.proofs.nearness.reaches.Goals as goal

pub returns : goal.returns
returns c =
    let p = are_within c.args.reach c.args.cell in
    let fits : FitsSigned w32 c.args.cell.1 = search rules in
    c.is_any_within.ensures
    ∙ any_by_filter p _ _ (c.rows.ensures p (λ d h.
    let w = row_within c.args.reach c.args.cell d h in
    let low = w.0 in
    let high = w.1 in
    (omega (arith, ints), omega (arith, ints))))
    ∙ ap (list_any p) c.as_slice.ensures.cells
