use Rattle.std.proofs.Common.{◌≡◌, ◌+◌, ◌≤◌, drop}
use Rattle.std.specs.Prelude.{min}
use Rattle.census_format.specs.Lines.{pattern_count}
use Rattle.census_crew.proofs.running.patterns_of.Given as goal

abbrev pub invariant-loop-folder : goal.invariant-loop-folder
invariant-loop-folder l =
    (min (l.patterns + pattern_count (drop l.folder-index l.folder-items)) 18446744073709551615 ≡ min (pattern_count l.bundle) 18446744073709551615)
    × (l.patterns ≤ 18446744073709551615)
