use Rattle.std.proofs.Common.{◌≡◌, ◌+◌, ◌≤◌, ◌*◌, drop}
use Rattle.census_format.specs.Lines.{pattern_count}
use Rattle.census_compare.proofs.starts.patterns_in.Given as goal

abbrev pub invariant-loop-folder : goal.invariant-loop-folder
invariant-loop-folder l = record {
  count : l.count + pattern_count (drop l.folder-index l.folder-items) ≡ pattern_count l.bundle;
  few : l.count ≤ 65535 * l.folder-index;
}
