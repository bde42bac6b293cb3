use Rattle.std.proofs.Common.{◌<◌, ◌-◌, pos, length, get_or, refl, sym, ap, subst, ◌∙◌, false-eqb, below_more, arith}
use Rattle.life_model.specs.Cell.{plus}
use Rattle.life_model.specs.Generation.{cells}
use Rattle.life_strays.specs.Strays.{IsNoReturn}
use Rattle.life_strays.proofs.Places.{listed_cell, move_back, place_listed}
use Rattle.life_strays.proofs.returning.some_may_return.Goals as goal

pub may_return_by-requires-clause-cells : goal.may_return_by-requires-clause-cells
may_return_by-requires-clause-cells g c = c.as_slice-listed.ensures.cells ∙ ap cells c.requires.cells

pub may_return_by-requires-clause-one : goal.may_return_by-requires-clause-one
may_return_by-requires-clause-one g c =
    let all = c.as_slice-all.result.now in
    let some : 0 < length all = omega (arith, false-eqb _ 0 (sym c.if-is_empty.false ∙ c.is_empty.ensures)) in
    listed_cell c.args.set.now all (length all - 1) (pos 0, pos 0) c.as_slice-all.ensures.cells (omega arith)

pub loop-cell-preserved : goal.loop-cell-preserved
loop-cell-preserved g c =
    below_more _ _ c.loop-cell.invariant
    (subst (IsNoReturn c.args.number (g.P.Plane.members c.args.start.now) (g.P.Plane.members c.args.later.now)
    c.args.set.now c.args.heirs.now) c.move_between-by.ensures (c.if-may_return_by.ensures refl))

pub returns : goal.returns
returns g c = λ is d near there back.
    let H = g.P.Plane.members c.args.later.now in
    let all = c.as_slice-all.result.now in
    let first = get_or all 0 (pos 0, pos 0) in
    let some : 0 < length all = omega (arith, false-eqb _ 0 (sym c.if-is_empty.false ∙ c.is_empty.ensures)) in
    let to = plus first d in
    let at = place_listed H c.as_slice-listed.result.now to
    (c.as_slice-listed.ensures.cells ∙ ap cells c.requires.cells)
    (there first (listed_cell c.args.set.now all 0 (pos 0, pos 0) c.as_slice-all.ensures.cells some)) in
    let within : at.0 < c.loop-cell.cell-index = omega (arith, at.1) in
    subst (IsNoReturn c.args.number (g.P.Plane.members c.args.start.now) H c.args.set.now c.args.heirs.now)
    (move_back first d (get_or c.as_slice-listed.result.now at.0 (pos 0, pos 0)) at.2)
    (c.loop-cell.invariant at.0 within) near there back
