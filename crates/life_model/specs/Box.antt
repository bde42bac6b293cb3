-- The bounding box of a set: its width and its height.
use Rattle.std.specs.Prelude.{ℕ, ◌+◌, max, List, [], ◌∷◌, map, nat_abs}
use Rattle.life_model.specs.Generation.{Generation, cells}
use Rattle.life_model.specs.Symmetry.{normal}

-- one more than the greatest of the numbers, or 0 if there is none
abbrev pub extent : List ℕ → ℕ
extent [] = 0
extent (n ∷ ns) = max (n + 1) (extent ns)

-- no coordinate in a normal form is negative
unfoldable pub width : Generation → ℕ
width G = extent (map (λ c. nat_abs c.0) (cells (normal G)))

unfoldable pub height : Generation → ℕ
height G = extent (map (λ c. nat_abs c.1) (cells (normal G)))
