-- Boxes around cells.
use Rattle.std.specs.Prelude.{◌≡◌, ℕ, ◌<◌, true, ◌≤ℤ◌}
use Rattle.life_model.specs.Cell.{Cell, plus}
use Rattle.life_model.specs.Evolution.{generation}
use Rattle.life_model.specs.Generation.{Generation, contains}
use Rattle.life_objects.specs.Apart.{AreNear}
use Rattle.life_orbit.specs.Course.{Course}
use Rattle.life_orbit.specs.declared.hull.Hull.{Hull}

-- the cell is in the box
pub record IsInHull (h : Hull) (c : Cell) : Type 0 where
  pub left : h.left ≤ℤ c.0
  pub right : c.0 ≤ℤ h.right
  pub above : h.top ≤ℤ c.1
  pub below : c.1 ≤ℤ h.bottom

-- the first box is in the second
pub record IsPartOf (a b : Hull) : Type 0 where
  pub left : b.left ≤ℤ a.left
  pub right : a.right ≤ℤ b.right
  pub above : b.top ≤ℤ a.top
  pub below : a.bottom ≤ℤ b.bottom

-- no cell of the first box, moved, is near one of the second
abbrev pub AreFar : Hull → Cell → Hull → Type 0
AreFar a by b = (c d : Cell) → IsInHull a c → IsInHull b d → AreNear (plus c by) d → ⊥

-- the box has all cells of the set
abbrev pub HoldsAllCells : Hull → Generation → Type 0
HoldsAllCells h G = (c : Cell) → contains G c ≡ true → IsInHull h c

-- the box has all cells of all generations over a period
abbrev pub IsHullOf : Hull → Course → Type 0
IsHullOf h o = (k : ℕ) (c : Cell) → k < o.period → contains (generation o.rule o.set k) c ≡ true → IsInHull h c
