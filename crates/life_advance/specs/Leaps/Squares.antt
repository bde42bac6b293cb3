-- Squares of squares, and the cells of a set that they have.
use Rattle.std.specs.Prelude.{◌≡◌, ℕ, zero, suc, pos, ◌+◌, ◌*◌, ◌^◌, ◌<◌, ◌≤◌, min, Some, None}
use Rattle.life_model.specs.Cell.{Cell, plus}
use Rattle.life_model.specs.Rule.{Rule}
use Rattle.life_model.specs.Generation.{Generation}
use Rattle.life_model.specs.Evolution.{generation}
use Rattle.life_slots.specs.declared.leaf.Leaf.{Leaf}
use Rattle.life_slots.specs.Leaves.{leaf_cell, ShowsLeaf}
use Rattle.life_advance.specs.Leaps.Places.{empty_at}
use Rattle.life_advance.specs.declared.leaps.square.Quarters.{Quarters}
use Rattle.life_advance.specs.declared.leaps.square.Square.{Square}

-- the leaves and the squares of a store, and their numbers
pub record View : Type 0 where
  pub leaf : ℕ → Leaf
  pub leaves : ℕ
  pub square : ℕ → Square
  pub squares : ℕ

-- half of the width of a square of a level, in cells
unfoldable pub half : ℕ → ℕ
half zero = 16
half (suc n) = 2 * half n

-- the width of a square of a level, in cells
abbrev pub width : ℕ → ℕ
width n = 2 * half n

-- the place x columns east and y rows south of a place
abbrev pub beyond : Cell → ℕ → ℕ → Cell
beyond place x y = plus place (pos x, pos y)

-- the four quarters, each `wide` cells wide, of a square at a place are of a kind
pub record OnQuarters (kind : ℕ → Cell → Type 0) (wide : ℕ) (quarters : Quarters) (place : Cell) : Type 0 where
  pub north_west : kind quarters.north_west place
  pub north_east : kind quarters.north_east (beyond place wide 0)
  pub south_west : kind quarters.south_west (beyond place 0 wide)
  pub south_east : kind quarters.south_east (beyond place wide wide)

-- a square of a level has the cells of a set from a place on, eastwards and southwards
unfoldable pub Shows : View → ℕ → ℕ → Generation → Cell → Type 0
Shows v zero i G place = ShowsLeaf (v.leaf i) G place
Shows v (suc n) i G place = OnQuarters (λ j q. Shows v n j G q) (width n) (v.square i).quarters place

-- four squares of a level that make one have them
abbrev pub ShowsQuarters : View → ℕ → Quarters → Generation → Cell → Type 0
ShowsQuarters v n quarters G place = OnQuarters (λ j q. Shows v n j G q) (width n) quarters place

-- there is a square of a level at a place of the list
abbrev pub IsAt : View → ℕ → ℕ → Type 0
IsAt v zero i = i < v.leaves
IsAt v (suc n) i = (i < v.squares) × ((v.square i).level ≡ n)

-- there are four squares of a level
pub record AreAt (v : View) (n : ℕ) (quarters : Quarters) : Type 0 where
  pub north_west : IsAt v n quarters.north_west
  pub north_east : IsAt v n quarters.north_east
  pub south_west : IsAt v n quarters.south_west
  pub south_east : IsAt v n quarters.south_east

-- the number of generations by which squares whose quarters have a level remember their middles later
abbrev pub jump : ℕ → ℕ → ℕ
jump exponent n = 2 ^ min exponent (n + 4)

-- a square of a level has in it the middle of four of that level, t generations later
abbrev pub IsLater : Rule → ℕ → View → ℕ → Quarters → View → ℕ → Type 0
IsLater rule t v n quarters w later =
    (G : Generation) (place : Cell) → ShowsQuarters v n quarters G place → Shows w n later (generation rule G t) (beyond place (half n) (half n))

-- a square of a level has in it the middle of four of that level, and there is such a square
pub record IsMiddle (rule : Rule) (t : ℕ) (v : View) (n : ℕ) (quarters : Quarters) (w : View) (later : ℕ) : Type 0 where
  pub at : IsAt w n later
  pub shows : IsLater rule t v n quarters w later

-- what a square remembers is right
abbrev pub IsRight : Rule → ℕ → View → Square → Type 0
IsRight rule exponent v square = (later : ℕ) → square.later ≡ Some later → IsMiddle rule (jump exponent square.level) v square.level square.quarters v later

-- the invariant of a store
pub record IsKept (v : View) : Type 0 where
  pub leaf : (x y : ℕ) → leaf_cell (v.leaf 0) x y ≡ 0
  pub some : 0 < v.leaves
  pub empty : (n : ℕ) → n < 21 → (v.square n).level ≡ n
  pub none : (n : ℕ) → n < 21 → (v.square n).quarters ≡ record { north_west = empty_at n; north_east = empty_at n; south_west = empty_at n; south_east = empty_at n }
  pub many : 21 ≤ v.squares
  pub quarters : (i : ℕ) → i < v.squares → AreAt v (v.square i).level (v.square i).quarters

-- all that is remembered is right
abbrev pub AreRight : Rule → ℕ → View → Type 0
AreRight rule exponent v = (i : ℕ) → i < v.squares → IsRight rule exponent v (v.square i)

-- the second store has at its places what the first one has there
pub record Extends (v w : View) : Type 0 where
  pub leaf : (i : ℕ) → i < v.leaves → w.leaf i ≡ v.leaf i
  pub leaves : v.leaves ≤ w.leaves
  pub quarters : (i : ℕ) → i < v.squares → (w.square i).quarters ≡ (v.square i).quarters
  pub level : (i : ℕ) → i < v.squares → (w.square i).level ≡ (v.square i).level
  pub squares : v.squares ≤ w.squares

-- a store has grown, and is right if it was right
pub record Grows (rule : Rule) (exponent : ℕ) (v w : View) : Type 0 where
  pub kept : IsKept w
  pub extends : Extends v w
  pub right : AreRight rule exponent v → AreRight rule exponent w

-- what is remembered by squares whose quarters have a level or a greater one is forgotten, and all else is unchanged
pub record Forgets (least : ℕ) (v w : View) : Type 0 where
  pub leaf : (i : ℕ) → w.leaf i ≡ v.leaf i
  pub leaves : w.leaves ≡ v.leaves
  pub squares : w.squares ≡ v.squares
  pub quarters : (i : ℕ) → (w.square i).quarters ≡ (v.square i).quarters
  pub level : (i : ℕ) → (w.square i).level ≡ (v.square i).level
  pub forgotten : (i : ℕ) → i < v.squares → least ≤ (v.square i).level → (w.square i).later ≡ None
  pub later : (i : ℕ) → (v.square i).level < least → (w.square i).later ≡ (v.square i).later
