-- Sets that no split tears, and what lives on of a set.
use Rattle.std.specs.Prelude.{◌≡◌, ◌⊎◌, ℕ, ◌≤◌}
use Rattle.life_model.specs.Generation.{Generation}
use Rattle.life_model.specs.Rule.{Rule}
use Rattle.life_model.specs.Evolution.{generation}
use Rattle.life_objects.specs.Piece.{IsSplit, LivesThrough}
use Rattle.life_objects.specs.Union.{IsSubsetOf}

-- However G splits into two sets that stay apart for b generations, P lies in one of the two.
abbrev pub StaysWhole : Rule → ℕ → Generation → Generation → Type 0
StaysWhole R b G P = (A B : Generation) → IsSplit R b G A B → IsSubsetOf P A ⊎ IsSubsetOf P B

-- L is part of P and lives on, and after b generations nothing else is left of P
pub record IsCore (R : Rule) (b : ℕ) (L P : Generation) : Type 0 where
  pub within : IsSubsetOf L P
  pub lives : LivesThrough R b L
  pub later : (n : ℕ) → b ≤ n → generation R P n ≡ generation R L n
