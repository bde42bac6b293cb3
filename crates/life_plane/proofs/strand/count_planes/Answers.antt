use Rattle.std.proofs.Common.{arith}
use Rattle.life_plane.proofs.strand.count_planes.Goals as goal

pub returns : goal.returns
returns c = λ j.
    omega (
      arith,
      c.full_adder-above.ensures j,
      c.half_adder-beside.ensures j,
      c.full_adder-below.ensures j,
      c.full_adder-ones.ensures j,
      c.full_adder-twos.ensures j,
      c.half_adder-carried.ensures j,
      c.half_adder-fours.ensures j,
    )
