use Rattle.census_table.proofs.Sums.{are-kinds}
use Rattle.census_table.proofs.counting.kinds_of.Goals as goal

pub returns : goal.returns
returns c =
    are-kinds c.args.rare _ c.in_ok-objects.objects _ _
    c.in_ok-objects.ensures.permutation c.in_ok-objects.ensures.stable c.in_ok-objects.ensures.sorted
    c.in_ok-kinds.ensures c.sort_kinds.ensures.permutation c.sort_kinds.ensures.sorted
