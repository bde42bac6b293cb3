use Rattle.std.proofs.Common.{rules}
use Rattle.std.proofs.lemmas.Fn.{always_returns_same}
use Rattle.std.proofs.lemmas.List.Sorted.{IsPermutation-map}
use Rattle.census_table.specs.Places.{kind_at}
use Rattle.census_table.proofs.Sums.{count-less, counts-order, counts-sorted}
use Rattle.census_table.proofs.counting.sort_kinds.Goals as goal

pub returns-clause-permutation : goal.returns-clause-permutation
returns-clause-permutation c =
    IsPermutation-map (kind_at c.args.nothing.now c.args.objects.now) c.args.kinds.now.items c.sort_unstable_by.new.self.items c.sort_unstable_by.ensures.permutation

pub returns-clause-sorted : goal.returns-clause-sorted
returns-clause-sorted c =
    let told = kind_at c.args.nothing.now c.args.objects.now in
    counts-sorted c.args.rare told c.sort_unstable_by.new.self.items
    (c.sort_unstable_by.ensures.sorted (count-less c.args.rare told) (counts-order c.args.rare told) (always_returns_same _ _ _ (λ a r f k. search rules)))
