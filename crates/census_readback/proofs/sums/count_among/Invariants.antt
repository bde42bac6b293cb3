use Rattle.std.proofs.Common.{◌≡◌}
use Rattle.census_readback.proofs.Counted.{Passed}
use Rattle.census_readback.proofs.sums.count_among.Given as goal

abbrev pub invariant-loop-at : goal.invariant-loop-at
invariant-loop-at l = record {
  same : l.counted ≡ l.fn.counted;
  passed : Passed l.fn.counted l.object l.count l.at;
}
