use Rattle.std.proofs.Common.{◌≡◌, ◌++◌, drop, map}
use Rattle.serde_json.specs.View.{view}
use Rattle.census_facts.specs.Values.{part_data}
use Rattle.census_facts.proofs.values.part_values.Given as goal

abbrev pub invariant-loop-part : goal.invariant-loop-part
invariant-loop-part l = map view l.values.items ++ map (part_data l.names) (drop l.part-index l.parts) ≡ map (part_data l.names) l.parts
