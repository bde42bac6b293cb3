use Rattle.std.proofs.Common.{◌≡◌, ◌≤◌, length, take}
use Rattle.census_merge.specs.Kept.{whole_count}
use Rattle.census_merge.proofs.ended.whole_count.Given as goal

abbrev pub invariant-loop-count : goal.invariant-loop-count
invariant-loop-count l = record {
  within : l.count ≤ length l.rows;
  same : whole_count l.rows ≡ whole_count (take l.count l.rows);
}

abbrev pub decreases-loop-count : goal.decreases-loop-count
decreases-loop-count l = l.count
