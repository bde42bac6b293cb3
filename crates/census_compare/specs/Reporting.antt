-- What is reported, and whether that is nothing.
use Rattle.std.specs.Prelude.{◌≡◌, ℕ, Bool, List}
use Rattle.watched.specs.Telling.{Sheet, TellsAfter}
use Rattle.census_compare.specs.Columns.{is_empty}

-- a text was put, which is empty or not
pub record Reports (silent : Bool) (before after : Sheet) : Type 0 where
  pub text : List ℕ
  pub is : silent ≡ is_empty text
  pub tells : TellsAfter text before after
