use Rattle.std.proofs.Common.{take}
use Rattle.census_merge.specs.Numbers.{AreFlags}
use Rattle.census_merge.proofs.numbering.closed_by.Given as goal

abbrev pub invariant-loop-row : goal.invariant-loop-row
invariant-loop-row l = AreFlags (take l.row-index l.rows) l.flags.items
