use Rattle.census_compare.specs.Order.{has_key}
use Rattle.census_compare.proofs.Sorting.{one-key, places-in-order, places-same}
use Rattle.census_compare.proofs.listing.sort_places.Goals as goal

pub returns-clause-same : goal.returns-clause-same
returns-clause-same g c = λ key.
    let told = g.S.AtPlaces.told c.args.source.now in
    places-same told c.args.places.now c.put_in_order.new.places key
    (c.put_in_order.ensures.stable (λ p. has_key key (told p)) (one-key told key))

pub returns-clause-ordered : goal.returns-clause-ordered
returns-clause-ordered g c =
    places-in-order (g.S.AtPlaces.told c.args.source.now) c.put_in_order.new.places c.put_in_order.ensures.ordered
