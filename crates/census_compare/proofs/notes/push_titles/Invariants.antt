use Rattle.std.proofs.Common.{◌≡◌, ◌++◌, drop, false, map}
use Rattle.census_compare.specs.Claims.{title_read}
use Rattle.census_compare.specs.Notes.{listed}
use Rattle.census_compare.proofs.notes.push_titles.Given as goal

abbrev pub invariant-loop-title : goal.invariant-loop-title
invariant-loop-title l =
    l.text.items ++ listed l.compared l.later (map title_read (drop l.title-index l.titles))
    ≡ l.fn.text.items ++ listed l.compared false (map title_read l.titles)
