-- A pattern as contracts see it: a rule and a set of cells.
use Rattle.std.specs.Prelude.{map, Result, Ok, Err, refl}
use Rattle.std.specs.Coded.{Coded, code_by, coded×}
use Rattle.life_model.specs.Coded.{coded_generation, coded_rule}
use Rattle.life_model.specs.Generation.{Generation, from_list}
use Rattle.life_model.specs.Rule.{Rule}
use Rattle.life_text.specs.declared.rle.RleFault.{RleFault}
use Rattle.life_text.specs.Rle.{Meaning}
use Rattle.life_cells.specs.Readings.{cell_of_pair}

pub record Picture : Type 0 where
  pub rule : Rule
  pub cells : Generation

-- as a pair
abbrev pub coded_picture : Coded Picture
coded_picture = code_by (Rule × Generation) (coded× coded_rule coded_generation) (λ p. (p.rule, p.cells)) (λ q. record { rule = q.0; cells = q.1 }) (λ _. refl)

-- the rule and the set of cells that a text means, or its fault
abbrev pub picture_of : Result Meaning RleFault → Result Picture RleFault
picture_of (Ok meaning) = Ok (record { rule = meaning.rule; cells = from_list (map cell_of_pair meaning.cells) })
picture_of (Err fault) = Err fault
