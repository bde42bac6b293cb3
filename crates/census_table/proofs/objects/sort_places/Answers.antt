use Rattle.std.proofs.lemmas.List.Sorted.{IsPermutation-map}
use Rattle.census_table.specs.Kinds.{same_kind}
use Rattle.census_table.specs.Places.{object_at}
use Rattle.census_table.proofs.Sums.{kind-level, places-in-kinds, places-stable}
use Rattle.census_table.proofs.objects.sort_places.Goals as goal

pub returns-clause-permutation : goal.returns-clause-permutation
returns-clause-permutation c =
    IsPermutation-map (object_at c.args.nothing.now c.args.sections.now) c.args.places.now c.put_in_order.new.places c.put_in_order.ensures.permutation

pub returns-clause-stable : goal.returns-clause-stable
returns-clause-stable c = λ kind.
    let told = object_at c.args.nothing.now c.args.sections.now in
    places-stable told c.args.places.now c.put_in_order.new.places kind
    (c.put_in_order.ensures.stable (λ p. same_kind kind (told p)) (kind-level told kind))

pub returns-clause-sorted : goal.returns-clause-sorted
returns-clause-sorted c =
    places-in-kinds (object_at c.args.nothing.now c.args.sections.now) c.put_in_order.new.places c.put_in_order.ensures.ordered
