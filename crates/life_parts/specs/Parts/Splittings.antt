-- Splittings of a set into sets that evolve alone and never touch.
use Rattle.std.specs.Prelude.{◌≡◌, ℕ, true, List}
use Rattle.std.specs.List.{AllPairs, Contains}
use Rattle.life_model.specs.Cell.{Cell, IsNear}
use Rattle.life_model.specs.Rule.{Rule}
use Rattle.life_model.specs.Generation.{Generation, contains}
use Rattle.life_model.specs.Evolution.{generation}
use Rattle.life_model.specs.Recurrence.{RecursBy}
use Rattle.life_model.specs.Symmetry.{translate_of}
use Rattle.life_objects.specs.Union.{generations, union_of}

-- no cell of one is a cell of the other, or a neighbour of one
abbrev pub AreUntouching : Generation → Generation → Type 0
AreUntouching P Q = (c d : Cell) → contains P c ≡ true → contains Q d ≡ true → IsNear c d → ⊥

-- From now on, each generation of P is the union of that generation of the sets, each of which evolves alone, and no two of
-- them touch.
pub record AreSplit (R : Rule) (P : Generation) (Qs : List Generation) : Type 0 where
  pub together : (n : ℕ) → union_of (generations R Qs n) ≡ generation R P n
  pub apart : (n : ℕ) → AllPairs AreUntouching (generations R Qs n)

-- This holds in earlier generations too. A set that recurs after k generations, moved by d, was the same set k generations
-- ago, moved back by d. It was then split into the sets `Bs`, moved back likewise, which have become these.
pub record AreSplitThroughout (R : Rule) (P : Generation) (Qs : List Generation) : Type 0 where
  pub later : AreSplit R P Qs
  pub earlier : (k : ℕ) (d : Cell) → RecursBy R P k d → (Bs : List Generation) × AreSplit R P Bs ×
      ((Q : Generation) → Contains Qs Q → (B : Generation) × Contains Bs B × (generation R B k ≡ translate_of Q d))
