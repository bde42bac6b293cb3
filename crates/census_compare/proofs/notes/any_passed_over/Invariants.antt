use Rattle.std.proofs.Common.{◌≡◌, false, map, take}
use Rattle.std.specs.List.{list_any}
use Rattle.census_compare.specs.Claims.{title_read}
use Rattle.census_compare.specs.Columns.{is_listed}
use Rattle.census_compare.proofs.notes.any_passed_over.Given as goal

abbrev pub invariant-loop-title : goal.invariant-loop-title
invariant-loop-title l = l.any ≡ list_any (λ title. is_listed false title.column) (map title_read (take l.title-index l.titles))
