-- The generations of a set that are known not to be another set, moved: a missing cell comes no faster than by one place a
-- step.
use Rattle.std.specs.Prelude.{◌≡◌, ℕ, ◌<◌, ℤ, ◌+ℤ◌, ◌-ℤ◌, ◌≤ℤ◌, All, List, length, slice_index_or}
use Rattle.life_model.specs.Cell.{Cell, origin, plus, opposite}
use Rattle.life_model.specs.Rule.{Rule}
use Rattle.life_model.specs.Generation.{Generation}
use Rattle.life_model.specs.Evolution.{generation}
use Rattle.life_model.specs.Symmetry.{normal}

-- a is at most r from b in both directions
pub record IsReachedBy (r : ℤ) (a b : Cell) : Type 0 where
  pub left : (b.0 -ℤ r) ≤ℤ a.0
  pub right : a.0 ≤ℤ (b.0 +ℤ r)
  pub above : (b.1 -ℤ r) ≤ℤ a.1
  pub below : a.1 ≤ℤ (b.1 +ℤ r)

-- none of the cells is at most r from a in both directions
abbrev pub IsFar : ℤ → Cell → List Cell → Type 0
IsFar r a cs = All (λ b. IsReachedBy r a b → ⊥) cs

-- one of the listed cells, moved, is far from all the others
pub record IsMissed (r : ℤ) (listed cs : List Cell) (by : Cell) : Type 0 where
  pub at : ℕ
  pub inside : at < length listed
  pub far : IsFar r (plus (slice_index_or listed at origin) by) cs

-- whichever of the others the first of the listed cells is moved to, one of the listed cells is missing
abbrev pub IsAway : ℤ → List Cell → List Cell → Type 0
IsAway r listed cs = All (λ b. IsMissed r listed cs (plus b (opposite (slice_index_or listed 0 origin)))) cs

-- H and the n - 1 generations after it are not A, however it is moved
pub record IsQuiet (R : Rule) (A H : Generation) (n : ℕ) : Type 0 where
  pub none : (k : ℕ) → k < n → normal A ≡ normal (generation R H k) → ⊥
