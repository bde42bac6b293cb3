-- Ash: objects that stay apart for ever, each in one piece that recurs.
use Rattle.std.specs.Prelude.{◌≡◌, ◌≢◌, ℕ, ◌≤◌, List}
use Rattle.std.specs.List.{All, AllPairs}
use Rattle.life_model.specs.Cell.{Cell}
use Rattle.life_model.specs.Generation.{Generation, empty}
use Rattle.life_model.specs.Rule.{Rule}
use Rattle.life_model.specs.Evolution.{generation}
use Rattle.life_model.specs.Recurrence.{RecursBy}
use Rattle.life_objects.specs.Apart.{AreApartForEver}
use Rattle.life_objects.specs.Piece.{IsOnePiece}
use Rattle.life_objects.specs.Union.{union_of}

-- P recurs, moved as a whole, after at least one generation and at most b
pub record RecursWithin (R : Rule) (b : ℕ) (P : Generation) : Type 0 where
  pub steps : ℕ
  pub by : Cell
  pub within : steps ≤ b
  pub recurs : RecursBy R P steps by

-- P has cells, recurs within b, and is in one piece
pub record IsObject (R : Rule) (b : ℕ) (P : Generation) : Type 0 where
  pub nonempty : P ≢ empty
  pub recurs : RecursWithin R b P
  pub whole : IsOnePiece R b P

-- G is these objects, of which any two stay apart for ever.
pub record IsAsh (R : Rule) (b : ℕ) (G : Generation) (parts : List Generation) : Type 0 where
  pub together : union_of parts ≡ G
  pub apart : AllPairs (AreApartForEver R) parts
  pub objects : All (IsObject R b) parts

-- Generation b of G is ash of these parts.
abbrev pub HasFallenApart : Rule → ℕ → Generation → List Generation → Type 0
HasFallenApart R b G parts = IsAsh R b (generation R G b) parts
