use Rattle.std.proofs.Common.{rules}
use Rattle.std.proofs.lemmas.List.Sorted.{IsNonDecreasingBy-from_sort_by_key}
use Rattle.census_page.specs.Pages.{count_in, row_at}
use Rattle.census_page.proofs.Tables.{map-rises}
use Rattle.census_page.proofs.sorting.sort_rare.Goals as goal

pub returns-clause-ordered : goal.returns-clause-ordered
returns-clause-ordered c =
    map-rises count_in (row_at c.args.rows.now) 0 c.sort_by_key.new.self.items
    (IsNonDecreasingBy-from_sort_by_key (λ number. count_in (row_at c.args.rows.now number)) _ c.in_ok-sort_by_key.ensures.sorted (λ a r q k. search rules))
