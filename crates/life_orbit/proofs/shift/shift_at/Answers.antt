use Rattle.std.proofs.Common.{◌/◌, ◌*◌, ◌^◌, ◌≤◌, ◌∙◌, arith}
use Rattle.std.proofs.Math.Nat.{div-le_self}
use Rattle.life_objects.specs.Drift.{multiple_of}
use Rattle.life_orbit.proofs.Reaching.{reach_wider}
use Rattle.life_orbit.proofs.shift.shift_at.Goals as goal

pub repeated-requires : goal.repeated-requires
repeated-requires c = omega (arith, div-le_self c.args.time c.period.result)

pub returns-clause-value : goal.returns-clause-value
returns-clause-value c =
    c.repeated.ensures.value ∙ (λ i. multiple_of (c.args.time / c.period.ensures.value i) (c.displacement.ensures i))

pub returns-clause-reach : goal.returns-clause-reach
returns-clause-reach c =
    let few : (c.args.time / c.period.result) * 2147483648 ≤ 2 ^ 125 =
    omega (arith, div-le_self c.args.time c.period.result) in
    reach_wider ((c.args.time / c.period.result) * 2147483648) (2 ^ 125) c.repeated.result few c.repeated.ensures.reach
