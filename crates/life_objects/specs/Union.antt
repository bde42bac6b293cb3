-- The union of two sets, and that of a list of sets.
use Rattle.std.specs.Prelude.{◌≡◌, ℕ, true, List, [], ◌∷◌, ◌++◌, map}
use Rattle.life_model.specs.Cell.{Cell}
use Rattle.life_model.specs.Generation.{Generation, cells, contains, empty, from_list}
use Rattle.life_model.specs.Rule.{Rule}
use Rattle.life_model.specs.Evolution.{generation}

unfoldable pub union : Generation → Generation → Generation
union P Q = from_list (cells P ++ cells Q)

abbrev pub union_of : List Generation → Generation
union_of [] = empty
union_of (P ∷ Ps) = union P (union_of Ps)

-- each cell of P is a cell of A
abbrev pub IsSubsetOf : Generation → Generation → Type 0
IsSubsetOf P A = (c : Cell) → contains P c ≡ true → contains A c ≡ true

-- each set, n generations later
abbrev pub generations : Rule → List Generation → ℕ → List Generation
generations R Ps n = map (λ P. generation R P n) Ps
