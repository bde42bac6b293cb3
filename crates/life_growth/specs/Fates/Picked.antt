-- The classes of a pattern that are engines.
use Rattle.std.specs.Prelude.{◌≢◌, ◌⊎◌, ℕ, List}
use Rattle.std.specs.List.{All, AllPairs, Contains}
use Rattle.life_model.specs.Generation.{Generation}
use Rattle.life_model.specs.Rule.{Rule}
use Rattle.life_growth.specs.Engine.{IsEngineWithin}

-- `engines` are the classes that are engines within b, each once, and `others` are the other classes.
pub record ArePicked (R : Rule) (b : ℕ) (classes engines others : List Generation) : Type 0 where
  pub either : (P : Generation) → Contains classes P → Contains engines P ⊎ Contains others P
  pub engines_of : (P : Generation) → Contains engines P → Contains classes P
  pub others_of : (P : Generation) → Contains others P → Contains classes P
  pub once : AllPairs (λ P Q. P ≢ Q) engines
  pub each : All (IsEngineWithin R b) engines
  pub none : All (λ P. IsEngineWithin R b P → ⊥) others
