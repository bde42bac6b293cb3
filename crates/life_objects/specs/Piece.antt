-- Sets in one piece: whatever falls off such a set dies out.
use Rattle.std.specs.Prelude.{◌≡◌, ◌≢◌, ℕ}
use Rattle.life_model.specs.Generation.{Generation, empty}
use Rattle.life_model.specs.Rule.{Rule}
use Rattle.life_model.specs.Evolution.{generation}
use Rattle.life_objects.specs.Apart.{AreApartFor}
use Rattle.life_objects.specs.Union.{union}

-- some cell is left after b generations
abbrev pub LivesThrough : Rule → ℕ → Generation → Type 0
LivesThrough R b P = generation R P b ≢ empty

-- P is A and B together, which stay apart for b generations
pub record IsSplit (R : Rule) (b : ℕ) (P A B : Generation) : Type 0 where
  pub together : union A B ≡ P
  pub apart : AreApartFor R b A B

-- P doesn't split into two sets that both live through b generations
abbrev pub IsUndivided : Rule → ℕ → Generation → Type 0
IsUndivided R b P = (A B : Generation) → IsSplit R b P A B → LivesThrough R b A → LivesThrough R b B → ⊥

-- no generation of P is divided
abbrev pub IsOnePiece : Rule → ℕ → Generation → Type 0
IsOnePiece R b P = (n : ℕ) → IsUndivided R b (generation R P n)
