-- Growth that is found of a pattern.
use Rattle.std.specs.Prelude.{ℕ, ◌≤◌, List, min}
use Rattle.life_model.specs.Evolution.{generation}
use Rattle.life_model.specs.Generation.{Generation}
use Rattle.life_model.specs.Rule.{Rule}
use Rattle.life_growth.specs.Growth.{IsGrowth}
use Rattle.life_growing.specs.Growths.{Growth, IsGrowthOf}

-- This is a growth of G within a bound up to the horizon.
pub record IsSeenWithin (R : Rule) (horizon : ℕ) (G : Generation) (g : Growth) : Type 0 where
  pub bound : ℕ
  pub soon : bound ≤ horizon
  pub growth : IsGrowthOf R bound G g

-- This is a growth of a generation of G, which is no later than c, within a bound up to c and up to the horizon.
pub record IsGrownWithin (R : Rule) (G : Generation) (c horizon : ℕ) (g : Growth) : Type 0 where
  pub age : ℕ
  pub early : age ≤ c
  pub seen : IsSeenWithin R (min horizon c) (generation R G age) g

-- G has no growth within the horizon
abbrev pub NeverGrows : Rule → ℕ → Generation → Type 0
NeverGrows R horizon G = (Es : List Generation) (S : Generation) → IsGrowth R horizon G Es S → ⊥

-- generation c of G has no growth within the horizon, nor within c
abbrev pub NeverGrowsThen : Rule → Generation → ℕ → ℕ → Type 0
NeverGrowsThen R G c horizon = NeverGrows R (min horizon c) (generation R G c)
