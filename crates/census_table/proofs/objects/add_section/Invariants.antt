use Rattle.std.proofs.Common.{◌≡◌, ◌+◌, ◌++◌, map}
use Rattle.census_table.specs.Objects.{section_objects}
use Rattle.census_table.specs.Places.{object_at, AreBefore}
use Rattle.census_table.proofs.Placed.{objects_from}
use Rattle.census_table.proofs.objects.add_section.Given as goal

abbrev pub invariant-loop-row : goal.invariant-loop-row
invariant-loop-row l =
    (map (object_at l.nothing l.sections) l.places.items ++ objects_from (l.collection + 1) l.rows l.line l.row
    ≡ map (object_at l.nothing l.sections) l.fn.places.items ++ section_objects (l.collection + 1) l.rows)
    × (AreBefore l.collection 0 l.fn.places.items → AreBefore l.collection l.row l.places.items)
