use Rattle.std.proofs.Common.{◌≡◌, ◌∙◌, length, ap, refl, arith}
use Rattle.life_model.specs.Evolution.{next}
use Rattle.life_model.specs.Generation.{contains}
use Rattle.life_islands.proofs.Inherited.{heirs_fit, moved_live, next_in_reach}
use Rattle.life_islands.proofs.inheriting.heirs.Goals as goal

pub moved-place-requires : goal.moved-place-requires
moved-place-requires c =
    next_in_reach c.args.rule.now c.args.list.now c.as_slice-cells.result.now c.as_slice-cells.ensures.cells
    c.as_slice-cells.ensures.placed _
    (moved_live c.args.rule.now c.args.list.now c.args.later.now c.args.by c.requires.live c.as_slice-cell-items.result.now
    c.as_slice-cell-items.ensures.cells c.loop-cell.cell-index c.loop-cell-test.true)

pub heir-requires-clause-live : goal.heir-requires-clause-live
heir-requires-clause-live c =
    ap (contains (next c.args.rule.now c.args.list.now)) c.moved-place.ensures
    ∙ moved_live c.args.rule.now c.args.list.now c.args.later.now c.args.by c.requires.live c.as_slice-cell-items.result.now
    c.as_slice-cell-items.ensures.cells c.loop-cell.cell-index c.loop-cell-test.true

pub returns-clause-fits : goal.returns-clause-fits
returns-clause-fits c =
    let whole : c.loop-cell.cell-index ≡ length c.as_slice-cell-items.result.now = omega (arith, c.loop-cell.auto.cell-index-end, c.loop-cell-test.false) in
    heirs_fit c.args.rule.now c.args.list.now c.args.later.now c.args.sets _ c.args.by c.as_slice-cell-items.result.now
    c.as_slice-cell-items.ensures.cells (c.loop-cell.invariant.long ∙ whole) refl
    (λ m h. c.loop-cell.invariant.heirs m (omega (arith, h, whole)))
