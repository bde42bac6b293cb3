use Rattle.std.proofs.Common.{◌≡◌, ◌++◌, drop, map}
use Rattle.std.specs.Prelude.{filter}
use Rattle.census_table.specs.Kinds.{has_no_name}
use Rattle.census_table.specs.Places.{kind_at}
use Rattle.census_table.proofs.counting.unnamed_in.Given as goal

abbrev pub invariant-loop-kind : goal.invariant-loop-kind
invariant-loop-kind l =
    map (kind_at l.nothing l.objects) l.left.items ++ filter (has_no_name l.names) (map (kind_at l.nothing l.objects) (drop l.kind-index l.kinds))
    ≡ filter (has_no_name l.names) (map (kind_at l.nothing l.objects) l.kinds)
