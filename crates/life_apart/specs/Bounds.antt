-- The bounding box of a set, and the distance of other cells from it.
use Rattle.std.specs.Prelude.{ℕ, ℤ, pos, ◌≤ℤ◌}
use Rattle.life_model.specs.Cell.{Cell}
use Rattle.life_apart.specs.Alone.{IsCloser}
use Rattle.life_apart.specs.declared.clearance.Bounds.{Bounds}

-- the cell is in the box
pub record IsInBounds (b : Bounds) (c : Cell) : Type 0 where
  pub left : b.left ≤ℤ c.0
  pub right : c.0 ≤ℤ b.right
  pub above : b.top ≤ℤ c.1
  pub below : c.1 ≤ℤ b.bottom

-- no cell in the box is less than `far` from d
abbrev pub IsFarOff : Bounds → ℤ → Cell → Type 0
IsFarOff b far d = (c : Cell) → IsInBounds b c → (n : ℕ) → pos n ≤ℤ far → IsCloser n c d → ⊥
