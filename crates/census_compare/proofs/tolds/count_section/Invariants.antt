use Rattle.std.proofs.Common.{◌≡◌, ◌+◌, ◌≤◌, None, drop, length}
use Rattle.census_compare.specs.SamePatterns.{told_from}
use Rattle.census_compare.proofs.tolds.count_section.Given as goal

abbrev pub invariant-loop-index : goal.invariant-loop-index
invariant-loop-index l = (l.count + length (told_from l.opened (drop l.index l.rows)) ≡ length (told_from None l.rows)) × (l.count ≤ l.index)
