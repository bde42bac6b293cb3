-- The report of growth.
use Rattle.std.specs.Prelude.{ℕ, Bool, List, map, Option, option_map}
use Rattle.life_model.specs.Rule.{Rule}
use Rattle.life_model.specs.Generation.{Generation}
use Rattle.life_growth.specs.Fates.Decided.{growth_of}
use Rattle.life_answer.specs.CountedTales.{counted_tales}
use Rattle.life_answer.specs.Tales.{tale_of}
use Rattle.life_answer.specs.declared.tale.Engines.{Engines}

-- the report of engines
abbrev pub told_of_engines : Bool → Rule → ℕ → List Generation → List Engines
told_of_engines near R b Es = counted_tales (map (tale_of near R b) Es)

-- the report of the growth of G within b; None if it has none
unfoldable pub growth_told : Bool → Rule → ℕ → Generation → Option (List Engines)
growth_told near R b G = option_map (λ growth. told_of_engines near R b growth.0) (growth_of R b G)
