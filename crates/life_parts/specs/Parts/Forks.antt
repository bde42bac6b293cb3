-- Places where either of two islands may prevent the birth that a third would make.
use Rattle.std.specs.Prelude.{◌≡◌, ◌≢◌, ◌==◌, ◌≤◌, ℕ, pos, neg_ℤ, Bool, true, false, List, [], ◌∷◌, map}
use Rattle.life_model.specs.Cell.{Cell, plus, steps}
use Rattle.life_model.specs.Rule.{Rule, born}
use Rattle.life_model.specs.Generation.{Generation, contains}
use Rattle.life_model.specs.Evolution.{generation}
use Rattle.life_model.specs.Symmetry.{Orientation, turn}
use Rattle.life_parts.specs.Parts.Groups.{ColoursIslands, IsAround}
use Rattle.life_parts.specs.Parts.Without.{AreTiedWithout}

-- a dead cell with at most 8 live neighbours is born with exactly 3
abbrev pub HasBirthsAtThreeAlone : Rule → Type 0
HasBirthsAtThreeAlone R = (n : ℕ) → n ≤ 8 → born R n ≡ (n == 3)

-- the live cells around a fork, row by row: three cells in a row on its right, and the two corners on its left
abbrev pub fork : List Bool
fork =
    true ∷ false ∷ true
    ∷ false ∷ true
    ∷ true ∷ false ∷ true ∷ []

-- the cell that is the step away from x, the step mapped by one of the eight maps
abbrev pub beside : Cell → Orientation → Cell → Cell
beside x m step = plus x (turn m step)

-- x is dead, and around it is a fork, mapped by one of the eight maps: three live cells in a row and two single ones, which
-- have three colours.
pub record IsForkOf (G : Generation) (colour : Cell → ℕ) (x : Cell) : Type 0 where
  pub turned : Orientation
  pub dead : contains G x ≡ false
  pub live : map (λ step. contains G (beside x turned step)) steps ≡ fork
  pub first : colour (beside x turned (neg_ℤ (pos 1), neg_ℤ (pos 1))) ≢ colour (beside x turned (pos 1, pos 0))
  pub second : colour (beside x turned (neg_ℤ (pos 1), pos 1)) ≢ colour (beside x turned (pos 1, pos 0))
  pub singles : colour (beside x turned (neg_ℤ (pos 1), neg_ℤ (pos 1))) ≢ colour (beside x turned (neg_ℤ (pos 1), pos 1))

-- A fork: its row and its two single cells are of three islands.
pub record IsFork (G : Generation) (x : Cell) : Type 0 where
  pub colour : Cell → ℕ
  pub islands : ColoursIslands G colour
  pub is : IsForkOf G colour x

-- The islands around each fork, in any generation, are tied even where a fork's row and single cells, as three groups, join
-- nothing. (Where there is no fork, this demands nothing.)
abbrev pub AreForksTied : Rule → Generation → Type 0
AreForksTied R P =
    (n : ℕ) (x : Cell) → IsFork (generation R P n) x → (c d : Cell) → IsAround (generation R P n) x c →
    IsAround (generation R P n) x d → AreTiedWithout R P IsForkOf n c n d
