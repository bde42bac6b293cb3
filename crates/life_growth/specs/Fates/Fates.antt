-- The fate of a pattern.
use Rattle.std.specs.Prelude.{ℕ, List, Option, Some, None}
use Rattle.life_model.specs.Rule.{Rule}
use Rattle.life_model.specs.Generation.{Generation}
use Rattle.life_model.specs.Evolution.{generation}
use Rattle.life_objects.specs.Decided.Decided.{ash_of}
use Rattle.life_growth.specs.Fates.Decided.{growth_of}

-- Ash of these parts, growth by these engines beside this debris, or neither.
pub data Fate : Type 0 where
  Ash : List Generation → Fate
  Grows : List Generation → Generation → Fate
  Unresolved : Fate

abbrev pub fate_found : Option (List Generation) → Option (List Generation × Generation) → Fate
fate_found (Some parts) growth = Ash parts
fate_found None (Some growth) = Grows growth.0 growth.1
fate_found None None = Unresolved

-- the fate of G within b, determined by its generation b
unfoldable pub fate_of : Rule → ℕ → Generation → Fate
fate_of R b G = fate_found (ash_of R b (generation R G b)) (growth_of R b (generation R G b))
