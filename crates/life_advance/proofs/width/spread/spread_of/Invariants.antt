-- The cells that the loop has come to are between the outermost places.
use Rattle.std.proofs.Common.{All, take}
use Rattle.life_advance.proofs.WidthLemmas.Ranges.{IsBetween}
use Rattle.life_advance.proofs.width.spread.spread_of.Given as goal

abbrev pub invariant-loop-cell : goal.invariant-loop-cell
invariant-loop-cell l = record {
  columns : All (λ c. IsBetween l.west l.east c.0) (take l.cell-index l.cells);
  rows : All (λ c. IsBetween l.north l.south c.1) (take l.cell-index l.cells);
}
