-- A class that shows by itself that nothing grows if it is present.
use Rattle.std.specs.Prelude.{ℕ, ◌*◌, List}
use Rattle.std.specs.List.{Contains}
use Rattle.life_model.specs.Generation.{Generation}
use Rattle.life_model.specs.Rule.{Rule}
use Rattle.life_growth.specs.Engine.{FallsApart, IsEngineWithin}

-- C is no engine within b, and doesn't fall apart within twice b.
pub record IsLoose (R : Rule) (b : ℕ) (C : Generation) : Type 0 where
  pub no_engine : IsEngineWithin R b C → ⊥
  pub stays : FallsApart R (2 * b) C → ⊥

-- one of the classes is loose
abbrev pub HasLoose : Rule → ℕ → List Generation → Type 0
HasLoose R b classes = (C : Generation) × Contains classes C × IsLoose R b C
