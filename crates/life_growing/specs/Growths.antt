-- The growth of a generation, as it is found.
use Rattle.std.specs.Prelude.{ℕ, List, map, refl}
use Rattle.std.specs.Coded.{Coded, code_by, coded×, coded_list}
use Rattle.std.specs.List.{All}
use Rattle.life_model.specs.Generation.{Generation}
use Rattle.life_model.specs.Rule.{Rule}
use Rattle.life_growth.specs.Growth.{IsGrowth}
use Rattle.life_growing.specs.Settled.Settling.{IsSettling, Settling, coded_settling}
use Rattle.life_growing.specs.Emissions.{Emission, IsEmission, coded_emission}

-- the engines, and the outcome of the debris
pub record Growth : Type 0 where
  pub engines : List Emission
  pub debris : Settling

-- coded as the pair of its fields
abbrev pub coded_growth : Coded Growth
coded_growth =
    code_by (List Emission × Settling) (coded× (coded_list coded_emission) coded_settling) (λ g. (g.engines, g.debris))
    (λ p. record { engines = p.0; debris = p.1 }) (λ _. refl)

-- the set that is an engine
abbrev pub start_of : Emission → Generation
start_of e = e.path.start

abbrev pub starts_of : List Emission → List Generation
starts_of engines = map start_of engines

-- the set is an engine within b
abbrev pub IsEngineFound : Rule → ℕ → Emission → Type 0
IsEngineFound R b e = IsEmission R b (start_of e) e

-- G grows by these engines within b, and `debris` is the outcome of its debris.
pub record IsGrowthOf (R : Rule) (b : ℕ) (G : Generation) (g : Growth) : Type 0 where
  pub set : Generation
  pub growth : IsGrowth R b G (starts_of g.engines) set
  pub engines : All (IsEngineFound R b) g.engines
  pub debris : IsSettling R b set g.debris
