use Rattle.std.proofs.Common.{◌≡◌, ◌+◌, ◌≤◌, drop, map}
use Rattle.std.specs.Prelude.{min}
use Rattle.std.specs.List.{sum_by}
use Rattle.census_table.specs.Places.{kind_at}
use Rattle.census_table.specs.declared.object.Object.{Object}
use Rattle.census_table.proofs.counting.count_all.Given as goal

abbrev pub invariant-loop-kind : goal.invariant-loop-kind
invariant-loop-kind l =
    (min (l.total + sum_by (λ (o : Object). o.count) (map (kind_at l.nothing l.objects) (drop l.kind-index l.kinds))) 18446744073709551615
    ≡ min (sum_by (λ (o : Object). o.count) (map (kind_at l.nothing l.objects) l.kinds)) 18446744073709551615)
    × (l.total ≤ 18446744073709551615)
