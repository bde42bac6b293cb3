use Rattle.std.proofs.Common.{◌≡◌, None, ◌+◌, ◌≤◌, drop, length}
use Rattle.census_compare.specs.SamePatterns.{told_from}
use Rattle.std.specs.List.{flat_map}
use Rattle.std.specs.Prelude.{min}
use Rattle.census_compare.proofs.tolds.count_tolds.Given as goal

abbrev pub invariant-loop-collection : goal.invariant-loop-collection
invariant-loop-collection l =
    (min (l.count + length (flat_map (told_from None) (drop l.collection l.sections))) 18446744073709551615 ≡ min (length (flat_map (told_from None) l.sections)) 18446744073709551615)
    × (l.count ≤ 18446744073709551615)
