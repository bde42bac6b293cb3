use Rattle.std.proofs.Common.{◌∙◌, arith}
use Rattle.std.proofs.lemmas.Int.{ints}
use Rattle.life_model.specs.Cell.{opposite, plus}
use Rattle.life_model.proofs.Cells.{pair}
use Rattle.life_orbit.proofs.shift.offset_at.Goals as goal

pub returns-clause-value : goal.returns-clause-value
returns-clause-value c =
    let reach = c.shift_at-here.ensures.reach in
    let other_reach = c.shift_at-there.ensures.reach in
    pair (omega (arith, ints)) (omega (arith, ints))
    ∙ (λ i. plus (c.shift_at-here.ensures.value i) (opposite (c.shift_at-there.ensures.value i)))
