-- Bounded and unbounded populations.
use Rattle.std.specs.Prelude.{ℕ, ◌≤◌}
use Rattle.life_model.specs.Generation.{Generation, size}
use Rattle.life_model.specs.Rule.{Rule}
use Rattle.life_model.specs.Evolution.{generation}

-- there is a number of cells that no generation of P exceeds
abbrev pub HasBound : Rule → Generation → Type 0
HasBound R P = (most : ℕ) × ((n : ℕ) → size (generation R P n) ≤ most)

-- for each number, some generation of P has at least that many cells
abbrev pub HasNoBound : Rule → Generation → Type 0
HasNoBound R P = (k : ℕ) → (n : ℕ) × (k ≤ size (generation R P n))
