-- A plane that leaps, as contracts see it: its cells, the number of steps that it has made, and its rule.
use Rattle.std.specs.Prelude.{ℕ}
use Rattle.std.specs.Coded.{Coded, coded×}
use Rattle.life_model.specs.Coded.{coded_rule}
use Rattle.life_model.specs.Generation.{Generation}
use Rattle.life_model.specs.Rule.{Rule}
use Rattle.life_plane.specs.Kept.{coded_plane}

abbrev pub Seen : Type 0
Seen = (Generation × ℕ) × Rule

abbrev pub coded_seen : Coded Seen
coded_seen = coded× coded_plane coded_rule

abbrev pub members : Seen → Generation
members p = p.0.0

abbrev pub steps_made : Seen → ℕ
steps_made p = p.0.1

abbrev pub rule_of : Seen → Rule
rule_of p = p.1

-- the greatest age that a plane that leaps may reach
abbrev pub farthest_age : ℕ
farthest_age = 15728640
