-- A cell of the unbounded plane is a pair of integers, x first: x grows to the right and y grows downwards.
use Rattle.std.specs.Prelude.{ℤ, pos, neg_ℤ, ◌+ℤ◌, ◌-ℤ◌, ◌≤ℤ◌, Bool, List, [], ◌∷◌, map}
use Rattle.std.specs.Ordering.{ordering_then, int_cmp, eq_by_cmp}
use Rattle.std.specs.declared.cmp.Ordering.{Ordering}

abbrev pub Cell : Type 0
Cell = ℤ × ℤ

-- by y, then by x
abbrev pub cell_cmp : Cell → Cell → Ordering
cell_cmp a b = ordering_then (int_cmp a.1 b.1) (int_cmp a.0 b.0)

-- true where two cells are the same
abbrev pub same_cell : Cell → Cell → Bool
same_cell a b = eq_by_cmp cell_cmp a b

abbrev pub origin : Cell
origin = (pos 0, pos 0)

-- the cell, moved by d
abbrev pub plus : Cell → Cell → Cell
plus c d = (c.0 +ℤ d.0, c.1 +ℤ d.1)

abbrev pub opposite : Cell → Cell
opposite d = (neg_ℤ d.0, neg_ℤ d.1)

-- the eight steps to a neighbour, row by row
abbrev pub steps : List Cell
steps =
    (neg_ℤ (pos 1), neg_ℤ (pos 1)) ∷ (pos 0, neg_ℤ (pos 1)) ∷ (pos 1, neg_ℤ (pos 1))
    ∷ (neg_ℤ (pos 1), pos 0) ∷ (pos 1, pos 0)
    ∷ (neg_ℤ (pos 1), pos 1) ∷ (pos 0, pos 1) ∷ (pos 1, pos 1) ∷ []

-- the eight cells around a cell
abbrev pub around : Cell → List Cell
around c = map (plus c) steps

-- a and b are within one of each other in both directions
pub record IsNear (a b : Cell) : Type 0 where
  pub left : (b.0 -ℤ pos 1) ≤ℤ a.0
  pub right : a.0 ≤ℤ (b.0 +ℤ pos 1)
  pub above : (b.1 -ℤ pos 1) ≤ℤ a.1
  pub below : a.1 ≤ℤ (b.1 +ℤ pos 1)
