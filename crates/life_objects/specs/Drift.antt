-- Repeated moves, and sets with a gap between them.
use Rattle.std.specs.Prelude.{◌≡◌, true, ℕ, zero, suc, pos, ◌+ℤ◌, ◌≤ℤ◌}
use Rattle.life_model.specs.Cell.{Cell, origin, plus}
use Rattle.life_model.specs.Generation.{Generation, contains}

-- n moves by d
abbrev pub multiple_of : ℕ → Cell → Cell
multiple_of zero d = origin
multiple_of (suc n) d = plus (multiple_of n d) d

-- each cell of P is at least three places to the right of each cell of Q
abbrev pub IsRightOf : Generation → Generation → Type 0
IsRightOf P Q = (c d : Cell) → contains P c ≡ true → contains Q d ≡ true → (d.0 +ℤ pos 3) ≤ℤ c.0

-- each cell of P is at least three places below each cell of Q
abbrev pub IsBelow : Generation → Generation → Type 0
IsBelow P Q = (c d : Cell) → contains P c ≡ true → contains Q d ≡ true → (d.1 +ℤ pos 3) ≤ℤ c.1
