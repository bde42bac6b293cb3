use Rattle.std.proofs.Common.{◌≡◌, ◌-◌, ◌++◌, take, drop}
use Rattle.census_format.specs.Lines.{groups_text, pattern_lines}
use Rattle.census_book.proofs.release.push_patterns.Given as goal

abbrev pub invariant-loop-i : goal.invariant-loop-i
invariant-loop-i l =
    l.text.items ++ groups_text (take (l.m - l.i) (drop l.i (pattern_lines l.arrival.question l.c 1 l.folder.entries)))
    ≡ l.fn.text.items ++ groups_text (take (l.m - l.k) (drop l.k (pattern_lines l.arrival.question l.c 1 l.folder.entries)))
