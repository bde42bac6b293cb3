-- Sets that no other cell comes near for a while.
use Rattle.std.specs.Prelude.{◌≡◌, ℕ, true, not, pos, ◌+ℤ◌, ◌<ℤ◌}
use Rattle.life_model.specs.Cell.{Cell}
use Rattle.life_model.specs.Generation.{Generation, contains, keep}
use Rattle.life_model.specs.Rule.{Rule}
use Rattle.life_model.specs.Evolution.{generation}
use Rattle.life_objects.specs.Piece.{IsSplit}

-- c and d are less than n from each other in both directions
pub record IsCloser (n : ℕ) (c d : Cell) : Type 0 where
  pub left : d.0 <ℤ (c.0 +ℤ pos n)
  pub right : c.0 <ℤ (d.0 +ℤ pos n)
  pub above : d.1 <ℤ (c.1 +ℤ pos n)
  pub below : c.1 <ℤ (d.1 +ℤ pos n)

-- no cell of P is less than n from a cell of Q in both directions
abbrev pub AreFar : ℕ → Generation → Generation → Type 0
AreFar n P Q = (c d : Cell) → contains P c ≡ true → contains Q d ≡ true → IsCloser n c d → ⊥

-- the cells of G that are not in P
abbrev pub others_of : Generation → Generation → Generation
others_of G P = keep G (λ c. not (contains P c))

-- G is P and other cells, which stay apart from P for b generations, after which P has become the set `end`
pub record IsEndAlone (R : Rule) (b : ℕ) (G P end : Generation) : Type 0 where
  pub others : Generation
  pub split : IsSplit R b G P others
  pub becomes : end ≡ generation R P b
