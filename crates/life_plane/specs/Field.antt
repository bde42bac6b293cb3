-- Lists of cells, and steps between neighbours.
use Rattle.std.specs.Prelude.{◌≡◌, ℕ, ◌+◌, ◌<◌, pos, neg_ℤ, ◌≤ℤ◌, Bool, true, false, List, ◌++◌, flat_map, length, slice_index_or}
use Rattle.std.specs.List.{list_any}
use Rattle.std.specs.Ordering.{is_lt}
use Rattle.life_model.specs.Cell.{Cell, around, cell_cmp, same_cell}

-- true where a list has a cell
abbrev pub has : List Cell → Cell → Bool
has cs c = list_any (same_cell c) cs

-- at most one to each side
pub record IsStep (s : Cell) : Type 0 where
  pub left : neg_ℤ (pos 1) ≤ℤ s.0
  pub right : s.0 ≤ℤ pos 1
  pub above : neg_ℤ (pos 1) ≤ℤ s.1
  pub below : s.1 ≤ℤ pos 1

-- the cells of a list and the cells around them
abbrev pub candidates_of : List Cell → List Cell
candidates_of cs = cs ++ flat_map around cs

-- the cell before index i, if there is one, comes before this cell
abbrev pub IsBehind : List Cell → ℕ → Cell → Type 0
IsBehind cs i c = (k : ℕ) (d : Cell) → k + 1 ≡ i → is_lt (cell_cmp (slice_index_or cs k d) c) ≡ true

-- the cell at index i, if there is one, does not
abbrev pub HasReached : List Cell → ℕ → Cell → Type 0
HasReached cs i c = (d : Cell) → i < length cs → is_lt (cell_cmp (slice_index_or cs i d) c) ≡ false
