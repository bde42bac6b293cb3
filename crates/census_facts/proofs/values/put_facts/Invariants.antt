use Rattle.std.proofs.Common.{◌≡◌, drop}
use Rattle.serde_json.specs.View.{members_view}
use Rattle.census_facts.specs.Facts.{things_in}
use Rattle.census_facts.specs.Values.{with_things}
use Rattle.census_facts.proofs.values.put_facts.Given as goal

abbrev pub invariant-loop-fact : goal.invariant-loop-fact
invariant-loop-fact l =
    with_things l.names (things_in (drop l.fact-index l.facts)) (members_view l.members.entries) ≡ with_things l.names (things_in l.facts) (members_view l.fn.members.entries)
