use Rattle.std.proofs.Common.{rules}
use Rattle.std.proofs.lemmas.Fn.{always_returns_same}
use Rattle.std.proofs.lemmas.List.Sorted.{IsPermutation-trans}
use Rattle.census_table.specs.Places.{place_cmp}
use Rattle.census_table.proofs.Rising.{place_total}
use Rattle.census_table.proofs.Ties.{first-rises, is-less, less-order, level-kept, not-falling}
use Rattle.census_table.proofs.place.put_in_order.Goals as goal

pub put_runs_in_order-requires : goal.put_runs_in_order-requires
put_runs_in_order-requires g c =
    let cmp = g.O.OrderAtPlaces.cmp c.args.order.now in
    let total = g.O.OrderAtPlaces.total c.args.order.now in
    not-falling cmp total c.sort_unstable_by.new.self
    (c.sort_unstable_by.ensures.sorted (is-less cmp total) (less-order cmp total) (always_returns_same _ _ _ (λ a r f k. search rules)))

pub returns-clause-permutation : goal.returns-clause-permutation
returns-clause-permutation g c =
    IsPermutation-trans c.args.places.now c.sort_unstable_by.new.self c.put_runs_in_order.new.places
    c.sort_unstable_by.ensures.permutation c.put_runs_in_order.ensures.permutation

pub returns-clause-ordered : goal.returns-clause-ordered
returns-clause-ordered g c =
    first-rises (g.O.OrderAtPlaces.cmp c.args.order.now) place_cmp (g.O.OrderAtPlaces.total c.args.order.now) place_total
    c.put_runs_in_order.new.places c.put_runs_in_order.ensures.both

pub returns-clause-stable : goal.returns-clause-stable
returns-clause-stable g c = λ test level.
    level-kept (g.O.OrderAtPlaces.cmp c.args.order.now) place_cmp (g.O.OrderAtPlaces.total c.args.order.now) place_total test level
    c.args.places.now c.put_runs_in_order.new.places c.requires
    (IsPermutation-trans c.args.places.now c.sort_unstable_by.new.self c.put_runs_in_order.new.places
    c.sort_unstable_by.ensures.permutation c.put_runs_in_order.ensures.permutation)
    c.put_runs_in_order.ensures.both
