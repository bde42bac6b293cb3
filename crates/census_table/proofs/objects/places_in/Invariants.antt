use Rattle.std.proofs.Common.{◌≡◌, ◌+◌, ◌++◌, drop, map}
use Rattle.census_table.specs.Objects.{all_objects}
use Rattle.census_table.specs.Places.{object_at, AreBefore}
use Rattle.census_table.proofs.objects.places_in.Given as goal

abbrev pub invariant-loop-collection : goal.invariant-loop-collection
invariant-loop-collection l =
    (map (object_at l.nothing l.sections) l.places.items ++ all_objects (l.collection + 1) (drop l.collection l.sections) ≡ all_objects 1 l.sections)
    × AreBefore l.collection 0 l.places.items
