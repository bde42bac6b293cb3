-- Grids of columns, strip by strip, and their texts.
use Rattle.std.specs.Prelude.{◌≡◌, ℕ, ◌+◌, ◌*◌, ◌<◌, Bool, false, true, List, [], ◌∷◌, take, drop, reverse, slice_index, if◌then◌else◌}
use Rattle.life_model.specs.Cell.{Cell}
use Rattle.life_cells.specs.Dots.{weights}
use Rattle.life_cells.specs.Wechsler.{columns_text, strips_text}

-- Strip k of a grid that is `wide` columns wide is its columns from `k * wide` on. Each holds the weight of the cells
-- there.
pub record HoldsWeights (values : List ℕ) (wide strips : ℕ) (cells : List Cell) : Type 0 where
  pub each : (k x : ℕ) → k < strips → x < wide → slice_index values (k * wide + x) ≡ weights k cells x

-- the columns, from the last where they are read backwards
abbrev pub columns_from : Bool → List ℕ → List ℕ
columns_from back values = if back then reverse values else values

-- strip k of a grid
abbrev pub strip_of : List ℕ → ℕ → ℕ → List ℕ
strip_of values wide k = take wide (drop (k * wide) values)

-- the text of a grid of `strips` strips
abbrev pub grid_text : List ℕ → ℕ → ℕ → Bool → List ℕ
grid_text values wide strips back = strips_text (λ k. columns_text 0 (columns_from back (strip_of values wide k))) strips

-- its text, read from either side
abbrev pub both_texts : List ℕ → ℕ → ℕ → List (List ℕ)
both_texts values wide strips = grid_text values wide strips false ∷ grid_text values wide strips true ∷ []
