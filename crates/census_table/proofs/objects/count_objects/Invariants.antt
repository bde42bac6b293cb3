use Rattle.std.proofs.Common.{◌≡◌, ◌+◌, ◌≤◌, drop, length}
use Rattle.std.specs.Prelude.{min}
use Rattle.census_table.specs.Objects.{all_objects}
use Rattle.census_table.proofs.objects.count_objects.Given as goal

abbrev pub invariant-loop-collection : goal.invariant-loop-collection
invariant-loop-collection l =
    (min (l.count + length (all_objects (l.collection + 1) (drop l.collection l.sections))) 18446744073709551615
    ≡ min (length (all_objects 1 l.sections)) 18446744073709551615)
    × (l.count ≤ 18446744073709551615)
