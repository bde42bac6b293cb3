use Rattle.std.proofs.Common.{◌≡◌, ◌++◌, length}
use Rattle.census_readback.proofs.Walks.{Passed}
use Rattle.census_readback.proofs.lines.read_rows.Given as goal

abbrev pub invariant-loop-first : goal.invariant-loop-first
invariant-loop-first l = (passed : Passed l.text l.rest) × (l.rows ≡ l.fn.rows ++ passed.done)

abbrev pub decreases-loop-first : goal.decreases-loop-first
decreases-loop-first l = length l.rest
