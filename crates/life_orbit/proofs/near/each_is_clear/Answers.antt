use Rattle.std.proofs.Common.{refl, sym, true≢false}
use Rattle.life_model.specs.Cell.{plus}
use Rattle.life_orbit.specs.Clear.{IsClearOf}
use Rattle.life_orbit.proofs.Lists.{all_more}
use Rattle.life_orbit.proofs.near.each_is_clear.Goals as goal

pub loop-cell-preserved : goal.loop-cell-preserved
loop-cell-preserved c =
    all_more (λ b. IsClearOf (plus b c.args.by) c.args.others.now) c.args.cells.now c.loop-cell.cell-index _
    c.loop-cell-test.true c.loop-cell.invariant (c.if-not-is_clear_of.ensures.0 refl)

pub returns-then-not-is_clear_of : goal.returns-then-not-is_clear_of
returns-then-not-is_clear_of c = (
  λ t. absurd (true≢false (sym t)),
  λ all. c.if-not-is_clear_of.ensures.1 (all c.loop-cell.cell-index _ c.loop-cell-test.true),
)
