use Rattle.std.proofs.Common.{◌≡◌, map, take}
use Rattle.std.specs.List.{list_any}
use Rattle.census_compare.specs.Claims.{title_read}
use Rattle.census_compare.specs.Columns.{is_compared, is_name}
use Rattle.census_compare.proofs.titles.are_titles.Given as goal

abbrev pub invariant-loop-title : goal.invariant-loop-title
invariant-loop-title l = record {
  named : l.named ≡ list_any (λ title. is_name title.column) (map title_read (take l.title-index l.titles));
  compared : l.compared ≡ list_any (λ title. is_compared title.column) (map title_read (take l.title-index l.titles));
}
