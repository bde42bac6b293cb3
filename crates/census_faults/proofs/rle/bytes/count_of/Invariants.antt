use Rattle.std.proofs.Common.{length, ◌-◌, ◌≡◌, ◌≤◌, ◌+◌, drop}
use Rattle.census_faults.specs.Rle.Places.{times_in}
use Rattle.census_faults.proofs.rle.bytes.count_of.Given as goal

abbrev pub invariant-loop-next : goal.invariant-loop-next
invariant-loop-next l = record {
  within : l.next ≤ length l.text;
  few : l.count ≤ l.next;
  counted : l.count + times_in l.byte (drop l.next l.text) ≡ times_in l.byte l.text;
}

abbrev pub decreases-loop-next : goal.decreases-loop-next
decreases-loop-next l = length l.text - l.next
