-- Growth: a pattern made of engines and of debris that falls apart.
use Rattle.std.specs.Prelude.{◌≡◌, ◌≢◌, ℕ, List, [], ◌∷◌}
use Rattle.std.specs.List.{All, AllPairs}
use Rattle.life_model.specs.Generation.{Generation}
use Rattle.life_model.specs.Rule.{Rule}
use Rattle.life_model.specs.Evolution.{generation}
use Rattle.life_objects.specs.Apart.{AreApartForEver}
use Rattle.life_objects.specs.Union.{union_of}
use Rattle.life_growth.specs.Engine.{FallsApart, IsEngineWithin}

-- G is debris that falls apart and these engines, at least one, and any two of these sets stay apart for ever.
pub record IsGrowth (R : Rule) (b : ℕ) (G : Generation) (engines : List Generation) (debris : Generation) : Type 0 where
  pub some : engines ≢ []
  pub together : union_of (debris ∷ engines) ≡ G
  pub apart : AllPairs (AreApartForEver R) (debris ∷ engines)
  pub each : All (IsEngineWithin R b) engines
  pub settles : FallsApart R b debris

-- G has come to growth within b: its generation b is these engines and this debris.
abbrev pub HasComeToGrowth : Rule → ℕ → Generation → List Generation → Generation → Type 0
HasComeToGrowth R b G engines debris = IsGrowth R b (generation R G b) engines debris
