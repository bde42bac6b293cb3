use Rattle.std.proofs.Common.{◌∙◌, ap}
use Rattle.serde_json.specs.Written.{has_float}
use Rattle.census_facts.specs.Facts.{things_in}
use Rattle.census_facts.proofs.Floatless.{things-floatless}
use Rattle.census_facts.proofs.values.push_object.Goals as goal

pub push_value-requires : goal.push_value-requires
push_value-requires c = ap has_float c.in_ok-value.ensures ∙ things-floatless c.args.names.now (things_in c.args.facts.now)
