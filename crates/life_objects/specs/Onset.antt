-- The first generation of a pattern that is ash.
use Rattle.std.specs.Prelude.{◌≡◌, ℕ, ◌≤◌, List}
use Rattle.std.specs.List.{All, AllPairs}
use Rattle.life_model.specs.Cell.{Cell}
use Rattle.life_model.specs.Evolution.{generation}
use Rattle.life_model.specs.Generation.{Generation}
use Rattle.life_model.specs.Recurrence.{RecursBy}
use Rattle.life_model.specs.Rule.{Rule}
use Rattle.life_objects.specs.Apart.{AreApartForEver}
use Rattle.life_objects.specs.Ash.{IsAsh}
use Rattle.life_objects.specs.Union.{generations, union_of}

-- G is ash of some parts
abbrev pub HasAsh : Rule → ℕ → Generation → Type 0
HasAsh R b G = (parts : List Generation) × IsAsh R b G parts

-- Generation t of G is ash, and none before it is.
pub record IsAshOnset (R : Rule) (b : ℕ) (G : Generation) (t : ℕ) : Type 0 where
  pub ash : HasAsh R b (generation R G t)
  pub first : (n : ℕ) → HasAsh R b (generation R G n) → t ≤ n

-- P recurs, moved as a whole, after some number of generations
pub record Recurs (R : Rule) (P : Generation) : Type 0 where
  pub steps : ℕ
  pub by : Cell
  pub recurs : RecursBy R P steps by

-- The sets recur, and n generations later they are `laters`.
pub record AreBefore (R : Rule) (n : ℕ) (laters sets : List Generation) : Type 0 where
  pub recur : All (Recurs R) sets
  pub become : generations R sets n ≡ laters

-- G is these sets, of which any two stay apart for ever.
pub record IsMadeOf (R : Rule) (G : Generation) (sets : List Generation) : Type 0 where
  pub together : union_of sets ≡ G
  pub apart : AllPairs (AreApartForEver R) sets
