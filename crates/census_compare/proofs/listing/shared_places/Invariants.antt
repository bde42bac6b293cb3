use Rattle.std.proofs.Common.{◌≡◌, ◌-◌, ◌++◌, ◌≤◌, drop, length, map}
use Rattle.std.specs.Prelude.{filter}
use Rattle.census_compare.specs.Order.{AreInOrder, Key, has_key}
use Rattle.census_compare.specs.Same.{several}
use Rattle.census_compare.proofs.listing.shared_places.Given as goal

abbrev pub invariant-loop-at : goal.invariant-loop-at
invariant-loop-at g l = record {
  within : l.at ≤ length l.places;
  order : AreInOrder (map (g.S.AtPlaces.told l.source) (drop l.at l.places));
  ordered : AreInOrder (map (g.S.AtPlaces.told l.source) l.shared.items ++ map (g.S.AtPlaces.told l.source) (drop l.at l.places));
  same : (key : Key) → several (filter (has_key key) (map (g.S.AtPlaces.told l.source) l.places))
      ≡ filter (has_key key) (map (g.S.AtPlaces.told l.source) l.shared.items) ++ several (filter (has_key key) (map (g.S.AtPlaces.told l.source) (drop l.at l.places)));
}

abbrev pub decreases-loop-at : goal.decreases-loop-at
decreases-loop-at g l = length l.places - l.at
