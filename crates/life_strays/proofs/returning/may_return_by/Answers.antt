use Rattle.std.proofs.Common.{true≢false, ap, arith, refl, sym, ◌∙◌}
use Rattle.std.specs.List.{list_any}
use Rattle.life_model.specs.Cell.{plus, same_cell}
use Rattle.std.proofs.lemmas.Int.{ints}
use Rattle.life_model.proofs.Cells.{pair}
use Rattle.life_model.proofs.Generations.{contains-cells}
use Rattle.life_strays.proofs.returning.may_return_by.Goals as goal

pub returns-then-not-is_move_within : goal.returns-then-not-is_move_within
returns-then-not-is_move_within g c = λ no within there back. c.if-not-is_move_within.ensures.beyond refl within

pub returns-then-not-is_live : goal.returns-then-not-is_live
returns-then-not-is_live g c = λ no within there back.
    let H = g.P.Plane.members c.args.later.now in
    let to = plus c.args.one c.args.by in
    absurd (true≢false
    (sym (there c.args.one c.requires.one) ∙ contains-cells H to ∙ ap (list_any (same_cell to)) (sym c.requires.cells)
    ∙ ap (λ x. list_any (same_cell x) c.args.cells.now) (pair (omega (arith, ints)) (omega (arith, ints))) ∙ sym c.if-not-is_live.ensures))
