use Rattle.census_page.proofs.Tables.{codes-chosen}
use Rattle.census_page.proofs.chosen.chosen.Goals as goal

pub returns : goal.returns
returns c =
    codes-chosen c.args.options.now c.args.holders.now.rows.now _ _ _ c.in_ok-numbers.ensures c.in_ok-sort_rows.ensures.permutation c.in_ok-sort_rows.ensures.ordered c.cut.ensures
