use Rattle.std.proofs.Common.{◌+◌, ◌*◌, pos, take, ◌<ℤ◌}
use Rattle.std.specs.Prelude.{All}
use Rattle.life_cells.proofs.writer.count_within.Given as goal

abbrev pub invariant-cells : goal.invariant-cells
invariant-cells l = All (λ c. c.1 <ℤ pos (5 * l.strip + 5)) (take l.i l.cells)
