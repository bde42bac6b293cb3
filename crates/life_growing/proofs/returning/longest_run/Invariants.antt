use Rattle.std.proofs.Common.{◌<◌, ◌≤◌, length}
use Rattle.life_growing.proofs.returning.longest_run.Given as goal

abbrev pub invariant-loop-n : goal.invariant-loop-n
invariant-loop-n l = record {
  order : l.longest.first ≤ l.longest.last;
  last : l.longest.last < length l.cells;
  first : l.first < l.n;
}
