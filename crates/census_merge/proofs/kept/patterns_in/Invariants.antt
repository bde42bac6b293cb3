use Rattle.std.proofs.Common.{◌≡◌, ◌+◌, drop}
use Rattle.census_readback.specs.Shapes.{patterns_in}
use Rattle.census_merge.proofs.kept.patterns_in.Given as goal

abbrev pub invariant-loop-row : goal.invariant-loop-row
invariant-loop-row l = l.patterns + patterns_in (drop l.row-index l.rows) ≡ patterns_in l.rows
