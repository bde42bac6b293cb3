-- The populations of the generations of a set, one after another.
use Rattle.std.specs.Prelude.{◌≡◌, ℕ, ◌+◌, ◌<◌, ◌≤◌, List, get_or, length}
use Rattle.life_model.specs.Evolution.{generation}
use Rattle.life_model.specs.Generation.{Generation, size}
use Rattle.life_model.specs.Rule.{Rule}

-- the first n generations of G have these populations
pub record ArePopulations (R : Rule) (G : Generation) (n : ℕ) (counts : List ℕ) : Type 0 where
  pub count : length counts ≡ n
  pub each : (t : ℕ) → t < n → get_or counts t 0 ≡ size (generation R G t)

-- one of the numbers is no less than the one `places` places later
pub record FallsBack (counts : List ℕ) (places : ℕ) : Type 0 where
  pub place : ℕ
  pub within : place + places < length counts
  pub no_more : get_or counts (place + places) 0 ≤ get_or counts place 0
