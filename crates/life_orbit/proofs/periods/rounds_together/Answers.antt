use Rattle.std.proofs.Common.{arith}
use Rattle.std.proofs.Math.Nat.{div-le_self}
use Rattle.life_orbit.proofs.Divisors.{least_parts, parts_together, some_divisor, some_parts}
use Rattle.life_orbit.proofs.periods.rounds_together.Goals as goal

pub nonzero_div-result : goal.nonzero_div-result
nonzero_div-result c =
    some_divisor c.common_divisor-common.result c.args.second c.common_divisor-common.ensures.1 c.requires.second.0

pub nonzero_div-result-2 : goal.nonzero_div-result-2
nonzero_div-result-2 c =
    some_divisor c.common_divisor-common.result c.args.second c.common_divisor-common.ensures.1 c.requires.second.0

pub returns-clause-together : goal.returns-clause-together
returns-clause-together c =
    parts_together c.common_divisor-common.result c.args.first c.args.second c.common_divisor-common.ensures.0
    c.common_divisor-common.ensures.1

pub returns-clause-least : goal.returns-clause-least
returns-clause-least c g is =
    least_parts c.common_divisor-common.result g c.args.first c.args.second c.common_divisor-common.ensures is

pub returns-clause-first : goal.returns-clause-first
returns-clause-first c = (
  some_parts c.common_divisor-common.result c.args.second c.common_divisor-common.ensures.1 c.requires.second.0,
  omega (arith, div-le_self c.args.second c.common_divisor-common.result),
)

pub returns-clause-second : goal.returns-clause-second
returns-clause-second c = (
  some_parts c.common_divisor-common.result c.args.first c.common_divisor-common.ensures.0 c.requires.first.0,
  omega (arith, div-le_self c.args.first c.common_divisor-common.result),
)
