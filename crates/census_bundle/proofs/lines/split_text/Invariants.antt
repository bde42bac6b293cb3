use Rattle.std.proofs.Common.{◌≤◌, ◌-◌, drop, take, length}
use Rattle.census_bundle.specs.Scan.{IsTextOf}
use Rattle.census_bundle.proofs.lines.split_text.Given as goal

abbrev pub invariant-loop-len : goal.invariant-loop-len
invariant-loop-len l = record {
  within : l.len ≤ length l.whole;
  few : l.lines ≤ l.len;
  reads : IsTextOf l.whole (record { text = take l.len l.whole; lines = l.lines; rest = drop l.len l.whole });
}

abbrev pub decreases-loop-len : goal.decreases-loop-len
decreases-loop-len l = length l.whole - l.len
