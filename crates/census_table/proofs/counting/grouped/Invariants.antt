use Rattle.std.proofs.Common.{◌≡◌, ◌≤◌, drop, length, map, reverse}
use Rattle.census_table.specs.Grouping.{grouped}
use Rattle.census_table.specs.Places.{kind_at}
use Rattle.census_table.proofs.counting.grouped.Given as goal

abbrev pub invariant-loop-left : goal.invariant-loop-left
invariant-loop-left l =
    (l.left ≤ length l.objects) × (reverse (map (kind_at l.nothing l.objects) l.kinds.items) ≡ grouped (drop l.left l.objects))

abbrev pub decreases-loop-left : goal.decreases-loop-left
decreases-loop-left l = l.left
