-- Sets so far from each other that neither influences what becomes of the other.
use Rattle.std.specs.Prelude.{◌≡◌, ℕ, ◌<◌, ◌≤◌, true, pos, ◌+ℤ◌, ◌-ℤ◌, ◌≤ℤ◌}
use Rattle.life_model.specs.Cell.{Cell}
use Rattle.life_model.specs.Generation.{Generation, contains}
use Rattle.life_model.specs.Rule.{Rule}
use Rattle.life_model.specs.Evolution.{generation}

-- c and d are within two of each other in both directions
pub record AreNear (c d : Cell) : Type 0 where
  pub left : (d.0 -ℤ pos 2) ≤ℤ c.0
  pub right : c.0 ≤ℤ (d.0 +ℤ pos 2)
  pub above : (d.1 -ℤ pos 2) ≤ℤ c.1
  pub below : c.1 ≤ℤ (d.1 +ℤ pos 2)

-- no cell is in both
abbrev pub AreDisjoint : Generation → Generation → Type 0
AreDisjoint P Q = (c : Cell) → contains P c ≡ true → contains Q c ≡ true → ⊥

-- no cell of the one is near a cell of the other
abbrev pub AreApart : Generation → Generation → Type 0
AreApart P Q = (c d : Cell) → contains P c ≡ true → contains Q d ≡ true → AreNear c d → ⊥

-- the sets are apart now, and in each of the next b generations
abbrev pub AreApartFor : Rule → ℕ → Generation → Generation → Type 0
AreApartFor R b P Q = (n : ℕ) → n ≤ b → AreApart (generation R P n) (generation R Q n)

-- the sets are apart in each of the first n generations, from now on
abbrev pub AreApartBefore : Rule → ℕ → Generation → Generation → Type 0
AreApartBefore R n P Q = (m : ℕ) → m < n → AreApart (generation R P m) (generation R Q m)

-- the sets are apart now, and in each later generation
abbrev pub AreApartForEver : Rule → Generation → Generation → Type 0
AreApartForEver R P Q = (n : ℕ) → AreApart (generation R P n) (generation R Q n)
