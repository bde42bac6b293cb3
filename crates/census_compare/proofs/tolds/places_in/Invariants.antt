use Rattle.std.proofs.Common.{◌≡◌, None, ◌++◌, drop, map}
use Rattle.census_compare.specs.SamePatterns.{told_from}
use Rattle.std.specs.List.{flat_map}
use Rattle.census_table.specs.Places.{AreBefore}
use Rattle.census_compare.specs.Places.{told_at}
use Rattle.census_compare.proofs.tolds.places_in.Given as goal

abbrev pub invariant-loop-collection : goal.invariant-loop-collection
invariant-loop-collection l =
    (map (told_at l.nothing l.sections) l.places.items ++ flat_map (told_from None) (drop l.collection l.sections) ≡ flat_map (told_from None) l.sections)
    × AreBefore l.collection 0 l.places.items
