use Rattle.std.proofs.Common.{arith}
use Rattle.std.proofs.lemmas.Int.{ints}
use Rattle.life_model.proofs.Cells.{pair}
use Rattle.life_orbit.proofs.ago.cell_before.Goals as goal
use Rattle.life_orbit.proofs.ago.cell_before.Goals.{else-limit-x-via-then-limit-x+then-x-limit+then-limit-y+else-y-limit, else-limit-x-via-then-limit-x+then-x-limit+else-limit-y, else-limit-x-via-then-limit-x+else-x-limit, else-limit-x-via-else-limit-x}

pub returns-then-y-limit-clause-moved : goal.returns-then-y-limit-clause-moved
returns-then-y-limit-clause-moved c =
    let reach = c.requires in
    pair (omega (arith, ints)) (omega (arith, ints))

pub returns-then-y-limit-clause-placed : goal.returns-then-y-limit-clause-placed
returns-then-y-limit-clause-placed c =
    let reach = c.requires in
    record {
      left = omega (arith, ints);
      right = omega (arith, ints);
      above = omega (arith, ints);
      below = omega (arith, ints);
    }

pub returns-clause-outside : goal.returns-clause-outside
returns-clause-outside c place =
    let reach = c.requires in
    elim c.else-limit-x.branch [
      | else-limit-x-via-then-limit-x+then-x-limit+then-limit-y+else-y-limit w ↦ let no = w.if-y-limit in omega (arith, ints)
      | else-limit-x-via-then-limit-x+then-x-limit+else-limit-y w ↦ let no = w.if-limit-y in omega (arith, ints)
      | else-limit-x-via-then-limit-x+else-x-limit w ↦ let no = w.if-x-limit in omega (arith, ints)
      | else-limit-x-via-else-limit-x w ↦ let no = w.if-limit-x in omega (arith, ints)
    ]
