use Rattle.std.proofs.Common.{◌≡◌, ◌++◌, drop, map}
use Rattle.serde_json.specs.View.{view}
use Rattle.census_facts.specs.Values.{kind_data}
use Rattle.census_facts.proofs.values.kind_values.Given as goal

abbrev pub invariant-loop-kind : goal.invariant-loop-kind
invariant-loop-kind l = map view l.values.items ++ map (kind_data l.names) (drop l.kind-index l.kinds) ≡ map (kind_data l.names) l.kinds
