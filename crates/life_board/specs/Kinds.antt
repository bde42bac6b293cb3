-- The cells of a board, in one square or in many tiles.
use Rattle.std.specs.Prelude.{ℕ, All}
use Rattle.life_model.specs.Generation.{Generation, cells}
use Rattle.life_cells.specs.Limits.{IsWithin}
use Rattle.life_board.specs.Squares as squares
use Rattle.life_board.specs.declared.kind.Kind.{Kind}
use Rattle.life_board.specs.declared.kind.Kind.TheVariants.{Small, Large}

abbrev pub members_of : Kind → Generation
members_of (Small square) = squares.members_of square
members_of (Large plane) = plane.0

abbrev pub age_of : Kind → ℕ
age_of (Small square) = square.age
age_of (Large plane) = plane.1

abbrev pub IsKind : Kind → Type 0
IsKind (Small square) = squares.IsSquare square
IsKind (Large plane) = All (IsWithin plane.1) (cells plane.0)

-- the next generation of a square has no cell outside it
abbrev pub StaysInSquare : Kind → Type 0
StaysInSquare (Small square) = squares.StaysInSquare square
StaysInSquare (Large plane) = Unit {0}
