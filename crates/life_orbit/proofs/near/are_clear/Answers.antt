use Rattle.std.proofs.Common.{arith}
use Rattle.std.proofs.lemmas.Int.{ints}
use Rattle.life_orbit.proofs.Rows.{clear_turned}
use Rattle.life_orbit.proofs.near.are_clear.Goals as goal

pub returns-then-others-cells : goal.returns-then-others-cells
returns-then-others-cells c = (
  λ t. clear_turned c.args.others.now c.args.cells.now _ c.args.by (omega (arith, ints)) (omega (arith, ints))
      (c.each_is_clear.ensures.0 t),
  λ clear. c.each_is_clear.ensures.1
      (clear_turned c.args.cells.now c.args.others.now c.args.by _ (omega (arith, ints)) (omega (arith, ints)) clear),
)
