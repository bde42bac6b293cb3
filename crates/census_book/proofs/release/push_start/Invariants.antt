use Rattle.std.proofs.Common.{◌≡◌, ◌+◌, ◌++◌, ◌&&◌, ◌==◌, drop}
use Rattle.census_format.specs.Lines.{pattern_count}
use Rattle.census_format.specs.Reports.{opening}
use Rattle.census_book.proofs.release.push_start.Given as goal

abbrev pub invariant-loop-i : goal.invariant-loop-i
invariant-loop-i l =
    (l.text.items ++ opening l.question (1 + l.i) (drop l.i l.folders) ≡ l.fn.text.items ++ opening l.question 1 l.folders)
    × ((l.is_empty && (pattern_count (drop l.i l.folders) == 0)) ≡ (pattern_count l.folders == 0))
