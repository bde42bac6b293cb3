use Rattle.std.proofs.Common.{arith}
use Rattle.std.proofs.lemmas.Int.{ints, clamps}
use Rattle.life_orbit.proofs.hull.with_cell.Goals as goal

pub returns-clause-cell : goal.returns-clause-cell
returns-clause-cell c = record {
  left = omega (arith, ints, clamps);
  right = omega (arith, ints, clamps);
  above = omega (arith, ints, clamps);
  below = omega (arith, ints, clamps);
}

pub returns-clause-wider : goal.returns-clause-wider
returns-clause-wider c = record {
  left = omega (arith, ints, clamps);
  right = omega (arith, ints, clamps);
  above = omega (arith, ints, clamps);
  below = omega (arith, ints, clamps);
}
