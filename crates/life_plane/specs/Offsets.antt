-- The offset of a set from another, of which it is a translate.
use Rattle.std.specs.Prelude.{◌≡◌, ℕ, neg_ℤ, pos, ◌≤ℤ◌, true}
use Rattle.life_model.specs.Cell.{Cell, origin, plus}
use Rattle.life_model.specs.Generation.{Generation, contains, empty}
use Rattle.life_model.specs.Symmetry.{translate_of}

-- The second set is the first, moved by d. For empty sets d is the origin.
pub record IsOffset (G H : Generation) (d : Cell) : Type 0 where
  pub move : H ≡ translate_of G d
  pub unmoved : G ≡ empty → d ≡ origin

-- The second set is not the first, however it is moved.
abbrev pub AreNotTranslates : Generation → Generation → Type 0
AreNotTranslates G H = (d : Cell) → H ≡ translate_of G d → ⊥

-- a move of at most n places to each side
pub record IsMoveWithin (n : ℕ) (d : Cell) : Type 0 where
  pub left : neg_ℤ (pos n) ≤ℤ d.0
  pub right : d.0 ≤ℤ pos n
  pub above : neg_ℤ (pos n) ≤ℤ d.1
  pub below : d.1 ≤ℤ pos n

-- each cell of G, moved by d, is a cell of H
abbrev pub IsMovedInto : Generation → Generation → Cell → Type 0
IsMovedInto G H d = (c : Cell) → contains G c ≡ true → contains H (plus c d) ≡ true

-- no move of at most n places takes all cells of G to cells of H
abbrev pub HasNoneWithin : ℕ → Generation → Generation → Type 0
HasNoneWithin n G H = (d : Cell) → IsMoveWithin n d → IsMovedInto G H d → ⊥
