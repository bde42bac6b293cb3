-- Sets that can't be split, and sets that have left others for ever.
use Rattle.std.specs.Prelude.{◌≡◌, ◌≢◌, ℕ, List}
use Rattle.std.specs.List.{All, AllPairs}
use Rattle.life_model.specs.Generation.{Generation, empty}
use Rattle.life_model.specs.Rule.{Rule}
use Rattle.life_model.specs.Evolution.{next}
use Rattle.life_objects.specs.Apart.{AreApartFor, AreApartForEver}
use Rattle.life_objects.specs.Piece.{IsSplit}
use Rattle.life_objects.specs.Union.{union, union_of}
use Rattle.life_objects.specs.Whole.{StaysWhole}

-- P has a cell, and is not the union of two sets with a cell that stay apart for b generations.
pub record IsUnsplit (R : Rule) (b : ℕ) (P : Generation) : Type 0 where
  pub nonempty : P ≢ empty
  pub whole : (A B : Generation) → IsSplit R b P A B → A ≢ empty → B ≢ empty → ⊥

-- P becomes A and L, and L has left A for ever.
pub record Leaves (R : Rule) (P A L : Generation) : Type 0 where
  pub together : union A L ≡ next R P
  pub apart : AreApartForEver R A L

-- G is these sets, each with a cell, that stay apart for b generations and none of which any split of G tears.
pub record AreClasses (R : Rule) (b : ℕ) (G : Generation) (Ps : List Generation) : Type 0 where
  pub together : union_of Ps ≡ G
  pub nonempty : All (λ P. P ≢ empty) Ps
  pub whole : All (StaysWhole R b G) Ps
  pub apart : AllPairs (AreApartFor R b) Ps
