-- Sets of a generation that no split tears.
use Rattle.std.specs.Prelude.{ℕ}
use Rattle.life_model.specs.Generation.{Generation}
use Rattle.life_model.specs.Rule.{Rule}
use Rattle.life_objects.specs.Union.{IsSubsetOf}
use Rattle.life_objects.specs.Whole.{StaysWhole}

-- P has some of G's cells, and however G splits into two sets that stay apart for b generations, P lies in one of them
pub record IsWholeIn (R : Rule) (b : ℕ) (G P : Generation) : Type 0 where
  pub within : IsSubsetOf P G
  pub whole : StaysWhole R b G P
