-- The distances between the cells of a set.
use Rattle.std.specs.Prelude.{◌≡◌, ◌≤ℤ◌, ◌+ℤ◌, ℕ, pos, true}
use Rattle.life_model.specs.Cell.{Cell}
use Rattle.life_model.specs.Generation.{Generation, contains}

-- no cell is more than n columns to the right of another
abbrev pub SpansColumns : Generation → ℕ → Type 0
SpansColumns G n = (c d : Cell) → contains G c ≡ true → contains G d ≡ true → d.0 ≤ℤ (c.0 +ℤ pos n)

-- no cell is more than n rows below another
abbrev pub SpansRows : Generation → ℕ → Type 0
SpansRows G n = (c d : Cell) → contains G c ≡ true → contains G d ≡ true → d.1 ≤ℤ (c.1 +ℤ pos n)
