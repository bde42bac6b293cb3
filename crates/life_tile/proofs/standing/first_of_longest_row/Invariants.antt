use Rattle.std.proofs.Common.{◌<◌, length}
use Rattle.life_tile.proofs.standing.first_of_longest_row.Given as goal

-- both are numbers of cells
abbrev pub invariant-loop-n : goal.invariant-loop-n
invariant-loop-n l = (l.first < length l.cells) × (l.best < length l.cells)
