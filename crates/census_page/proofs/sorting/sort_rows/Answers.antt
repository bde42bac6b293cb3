use Rattle.census_page.proofs.Tables.{in-order}
use Rattle.census_page.proofs.sorting.sort_rows.Goals as goal

pub returns-in_ok-sort_rare-in-Rare-clause-ordered : goal.returns-in_ok-sort_rare-in-Rare-clause-ordered
returns-in_ok-sort_rare-in-Rare-clause-ordered c = rw c.in-Rare.is c.in_ok-sort_rare-in-Rare.ensures.ordered

pub returns-in_ok-sort_otherwise-in_default-clause-ordered : goal.returns-in_ok-sort_otherwise-in_default-clause-ordered
returns-in_ok-sort_otherwise-in_default-clause-ordered c = in-order _ _ (λ e. c.in_default.not-Rare e)
