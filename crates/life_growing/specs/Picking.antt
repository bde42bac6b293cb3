-- The engines among the classes of a set.
use Rattle.std.specs.Prelude.{◌≢◌, ◌⊎◌, ℕ, ◌*◌, ◌≤◌, List}
use Rattle.std.specs.List.{All, AllPairs, Contains}
use Rattle.life_model.specs.Generation.{Generation}
use Rattle.life_model.specs.Rule.{Rule}
use Rattle.life_growth.specs.Engine.{IsEngineWithin}
use Rattle.life_growing.specs.Emissions.{Emission}
use Rattle.life_growing.specs.Growths.{IsEngineFound, starts_of}

-- Of the classes, `engines` are found to be engines within b, each once, and `others` are the rest. None of the rest is
-- an engine, if `far` is at least twice b.
pub record ArePicks (R : Rule) (b far : ℕ) (classes : List Generation) (engines : List Emission)
    (others : List Generation) : Type 0 where
  pub found : All (IsEngineFound R b) engines
  pub either : (P : Generation) → Contains classes P → Contains (starts_of engines) P ⊎ Contains others P
  pub engines_of : (P : Generation) → Contains (starts_of engines) P → Contains classes P
  pub others_of : (P : Generation) → Contains others P → Contains classes P
  pub once : AllPairs (λ P Q. P ≢ Q) (starts_of engines)
  pub none : 2 * b ≤ far → All (λ P. IsEngineWithin R b P → ⊥) others
