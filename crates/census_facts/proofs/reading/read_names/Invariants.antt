use Rattle.std.proofs.Common.{◌≡◌, ◌+◌, ◌≤◌, length}
use Rattle.census_facts.specs.NameLines.{entries_from, names_in}
use Rattle.census_facts.proofs.Split.{left_len, left_lines}
use Rattle.census_facts.proofs.reading.read_names.Given as goal

abbrev pub invariant-loop-left : goal.invariant-loop-left
invariant-loop-left l = record {
  same : entries_from l.names l.number (left_lines l.left) ≡ names_in l.text;
  few : l.number + left_len l.left ≤ length l.text + 2;
}

abbrev pub decreases-loop-left : goal.decreases-loop-left
decreases-loop-left l = left_len l.left
