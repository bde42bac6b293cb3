use Rattle.std.proofs.Common.{◌≡◌, ◌+◌, ◌≤◌, length}
use Rattle.census_table.specs.Objects.{section_objects}
use Rattle.census_table.proofs.Placed.{objects_from}
use Rattle.census_table.proofs.objects.count_section.Given as goal

abbrev pub invariant-loop-row : goal.invariant-loop-row
invariant-loop-row l =
    (l.count + length (objects_from (l.collection + 1) l.rows l.line l.row) ≡ length (section_objects (l.collection + 1) l.rows))
    × (l.count ≤ l.row)
