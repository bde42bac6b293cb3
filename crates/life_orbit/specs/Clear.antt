-- Cells that are not near each other.
use Rattle.std.specs.Prelude.{◌≡◌, ℤ, ◌≤ℤ◌, Bool, cond, int_lt, List}
use Rattle.std.specs.List.{All}
use Rattle.std.specs.Ordering.{int_eq}
use Rattle.life_model.specs.Cell.{Cell, plus}
use Rattle.life_objects.specs.Apart.{AreNear}

-- c is near none of the cells
abbrev pub IsClearOf : Cell → List Cell → Type 0
IsClearOf c ds = All (λ d. AreNear c d → ⊥) ds

-- no cell of the first list, moved, is near one of the second
abbrev pub AreClear : List Cell → Cell → List Cell → Type 0
AreClear cs by ds = All (λ c. IsClearOf (plus c by) ds) cs

-- true if the cell is in a row before this one, or in this row and before the column
abbrev pub comes_before : ℤ → ℤ → Cell → Bool
comes_before row column c = cond (int_eq c.1 row) (int_lt c.0 column) (int_lt c.1 row)

-- none of the cells is in the row from the left column to the right one
abbrev pub IsFree : ℤ → ℤ → ℤ → List Cell → Type 0
IsFree row left right cs = All (λ c. c.1 ≡ row → left ≤ℤ c.0 → c.0 ≤ℤ right → ⊥) cs
