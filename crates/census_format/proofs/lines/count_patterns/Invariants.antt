use Rattle.std.proofs.Common.{◌≡◌, ◌+◌, ◌*◌, ◌≤◌, drop}
use Rattle.census_bundle.specs.Sizes.{count_limit}
use Rattle.census_format.specs.Lines.{pattern_count}
use Rattle.census_format.proofs.lines.count_patterns.Given as goal

abbrev pub invariant-loop-folder : goal.invariant-loop-folder
invariant-loop-folder l = (l.count + pattern_count (drop l.folder-index l.folders) ≡ pattern_count l.folders) × (l.count ≤ count_limit * l.folder-index)
