-- Ten rows of 192 cells, and the next generation of the middle 64 cells of rows 1 to 8.
use Rattle.std.specs.Prelude.{◌≡◌, ℕ, ◌+◌, ◌-◌, ◌<◌, nat_lt, if◌then◌else◌, slice_index}
use Rattle.std.specs.Int.{bit_at}
use Rattle.life_model.specs.Rule.{Rule}
use Rattle.life_plane.specs.Bits.{wide_row, next_state}
use Rattle.life_plane.specs.Area.{Nine, three_wide, area_row, sum_around}
use Rattle.life_plane.specs.declared.window.RowTriple.{RowTriple}
use Rattle.life_plane.specs.declared.window.Window.{Window}
use Rattle.life_plane.specs.declared.band_sums.BandSums.{BandSums}
use Rattle.life_plane.specs.Rows.{IsTwoOf, IsThreeOf}

-- one row of three tiles side by side, as one row of 192 cells
abbrev pub triple_strip : RowTriple → ℕ
triple_strip row = wide_row row.west row.here row.east

-- row y of a window: 0 is the row above, 1 to 8 are rows `top` to `top + 7` of the three tiles, and 9 is the row below
abbrev pub window_row : Window → ℕ → ℕ
window_row window y =
    if nat_lt y 1
    then triple_strip window.above
    else if nat_lt y 9
    then three_wide window.west.now window.here.now window.east.now (window.top + y - 1)
    else triple_strip window.below

-- the cell of a window in column x, counted from 0 to 191, and row y, counted from 0 to 9
abbrev pub window_cell : Window → ℕ → ℕ → ℕ
window_cell window x y = bit_at (window_row window y) x

-- the next state of the cell of the middle tile in column x and row `top + y`
abbrev pub next_in_window : Rule → Window → ℕ → ℕ → ℕ
next_in_window rule window x y =
    next_state rule (window_cell window (x + 64) (y + 1)) (sum_around (window_cell window) (x + 63) y)

-- the window of rows `top` to `top + 7` of the middle tile of nine
pub record IsWindowOf (window : Window) (nine : Nine) (top : ℕ) : Type 0 where
  pub from : window.top ≡ top
  pub row : (y : ℕ) → y < 10 → window_row window y ≡ area_row nine (top + 63 + y)

-- the sums of the eight rows and of all ten
pub record IsSumsOf (sums : BandSums) (window : Window) : Type 0 where
  pub two : (y : ℕ) → y < 8 → IsTwoOf (window_row window (y + 1)) (slice_index sums.two_ones y) (slice_index sums.two_twos y)
  pub three : (y : ℕ) → y < 10 → IsThreeOf (window_row window y) (slice_index sums.three_ones y) (slice_index sums.three_twos y)
