-- The dots that the writer keeps of a strip: for each cell, its column and its weight there.
use Rattle.std.specs.Prelude.{ℕ, ◌+◌, ◌-◌, ◌*◌, ◌^◌, List, [], ◌∷◌, map, pos, nat_abs, ◌≤ℤ◌, ◌<ℤ◌, ◌==◌, if◌then◌else◌}
use Rattle.std.specs.List.{range_with_len, sum_by}
use Rattle.life_model.specs.Cell.{Cell, same_cell}
use Rattle.life_cells.specs.Wechsler.{columns_text}
use Rattle.life_cells.specs.Limits.{last_place}

-- the number of strips of five rows that the greatest height has
abbrev pub strip_limit : ℕ
strip_limit = 3355444

-- the weight of a cell in column x of strip k
abbrev pub weight : ℕ → ℕ → Cell → ℕ
weight k x c = sum_by (λ j. if same_cell (pos x, pos (5 * k + j)) c then 2 ^ j else 0) (range_with_len 0 5)

abbrev pub weights : ℕ → List Cell → ℕ → ℕ
weights k cs x = sum_by (weight k x) cs

-- the dot of a cell of strip k
abbrev pub dot : ℕ → Cell → ℕ × ℕ
dot k c = (nat_abs c.0, 2 ^ (nat_abs c.1 - 5 * k))

-- the sum of the weights of dots in column x
abbrev pub dots_value : List (ℕ × ℕ) → ℕ → ℕ
dots_value dots x = sum_by (λ d. if d.0 == x then d.1 else 0) dots

-- the text of columns of these values
abbrev pub values_text : (ℕ → ℕ) → ℕ → List ℕ
values_text value wide = columns_text 0 (map value (range_with_len 0 wide))

-- the cell is in strip k, with no coordinate above 16,777,215
pub record IsInStrip (k : ℕ) (c : Cell) : Type 0 where
  pub left : pos 0 ≤ℤ c.0
  pub right : c.0 ≤ℤ pos last_place
  pub above : pos (5 * k) ≤ℤ c.1
  pub below : c.1 <ℤ pos (5 * k + 5)

-- the coordinates of the cell are in the range of those of a shape
pub record IsInField (c : Cell) : Type 0 where
  pub left : pos 0 ≤ℤ c.0
  pub right : c.0 ≤ℤ pos last_place
  pub above : pos 0 ≤ℤ c.1
  pub below : c.1 ≤ℤ pos last_place

-- the column of the cell is less than `wide`
abbrev pub IsLeftOf : ℕ → Cell → Type 0
IsLeftOf wide c = c.0 <ℤ pos wide

-- a `z` before each strip but the first
abbrev pub strip_mark : ℕ → List ℕ
strip_mark k = if k == 0 then [] else 122 ∷ []
