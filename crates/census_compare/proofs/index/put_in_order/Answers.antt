use Rattle.std.proofs.Common.{rules}
use Rattle.std.proofs.lemmas.Fn.{always_returns_same}
use Rattle.census_table.proofs.Ties.{is-less, less-order}
use Rattle.census_compare.proofs.Spotted.{in-order, spot_cmp, spot_total}
use Rattle.census_compare.proofs.index.put_in_order.Goals as goal

pub returns-clause-ordered : goal.returns-clause-ordered
returns-clause-ordered c =
    in-order c.sort_unstable_by.new.self.items
    (c.sort_unstable_by.ensures.sorted (is-less spot_cmp spot_total) (less-order spot_cmp spot_total) (always_returns_same _ _ _ (λ a r f k. search rules)))
