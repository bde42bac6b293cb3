-- A window among nine tiles.
use Rattle.std.proofs.Common.{◌≡◌, ℕ, true, false, ◌+◌, ◌-◌, ◌<◌, ◌≤◌, nat_lt, refl, ◌∙◌, sym, ap, ⊎_elim, arith}
use Rattle.std.specs.Int.{bit_at}
use Rattle.std.proofs.lemmas.Bool.{cases_lt}
use Rattle.life_model.specs.Rule.{Rule}
use Rattle.life_plane.specs.Bits.{next_state}
use Rattle.life_plane.specs.Area.{Nine, three_wide, area_row, area_cell, sum_around, next_in_area}
use Rattle.life_plane.specs.declared.window.Window.{Window}
use Rattle.life_plane.specs.Windows.{triple_strip, window_row, window_cell, next_in_window, IsWindowOf}

-- ---- the rows of a window

pub row_above : (window : Window) → window_row window 0 ≡ triple_strip window.above
row_above window = refl

pub row_inside : (window : Window) (y : ℕ) → y < 8 →
    window_row window (y + 1) ≡ three_wide window.west.now window.here.now window.east.now (window.top + y)
row_inside window y below =
    let later : nat_lt (y + 1) 1 ≡ false = grind arith in
    let inside : nat_lt (y + 1) 9 ≡ true = grind arith in
    let moved : window.top + (y + 1) - 1 ≡ window.top + y = omega arith in
    rw (later, inside, moved)

pub row_below : (window : Window) → window_row window 9 ≡ triple_strip window.below
row_below window = refl

-- ---- the rows of the nine

pub area_first : (nine : Nine) (b : ℕ) → b < 64 → area_row nine b ≡ three_wide nine.north_west nine.north nine.north_east b
area_first nine b less = let test : nat_lt b 64 ≡ true = grind arith in rw test

pub area_second : (nine : Nine) (b : ℕ) → 64 ≤ b → b < 128 → area_row nine b ≡ three_wide nine.west nine.here nine.east (b - 64)
area_second nine b more less =
    let past : nat_lt b 64 ≡ false = grind arith in
    let test : nat_lt b 128 ≡ true = grind arith in
    rw (past, test)

pub area_third : (nine : Nine) (b : ℕ) → 128 ≤ b → area_row nine b ≡ three_wide nine.south_west nine.south nine.south_east (b - 128)
area_third nine b more =
    let past : nat_lt b 64 ≡ false = grind arith in
    let past_both : nat_lt b 128 ≡ false = grind arith in
    rw (past, past_both)

-- ---- the window of some rows of the middle tile

pub window_from : (window : Window) (nine : Nine) (top : ℕ) → top ≤ 56 → window.top ≡ top →
    window.west.now ≡ nine.west → window.here.now ≡ nine.here → window.east.now ≡ nine.east →
    triple_strip window.above ≡ area_row nine (top + 63) → triple_strip window.below ≡ area_row nine (top + 72) →
    IsWindowOf window nine top
window_from window nine top room from west here east above below = record {
  from = from;
  row = λ y inside.
      ⊎_elim
      (λ (first : y < 1).
      let is : y ≡ 0 = omega arith in
      let at : top + 63 ≡ top + 63 + y = omega arith in
      ap (window_row window) is ∙ row_above window ∙ above ∙ ap (area_row nine) at)
      (λ (later : 1 ≤ y).
      ⊎_elim
      (λ (middle : y < 9).
      let is : y ≡ y - 1 + 1 = omega arith in
      let row : window.top + (y - 1) ≡ top + 63 + y - 64 = omega arith in
      ap (window_row window) is
      ∙ row_inside window (y - 1) (omega arith)
      ∙ (λ i. three_wide (west i) (here i) (east i) (row i))
      ∙ sym (area_second nine (top + 63 + y) (omega arith) (omega arith)))
      (λ (last : 9 ≤ y).
      let is : y ≡ 9 = omega arith in
      let at : top + 72 ≡ top + 63 + y = omega arith in
      ap (window_row window) is ∙ row_below window ∙ below ∙ ap (area_row nine) at)
      (cases_lt y 9))
      (cases_lt y 1);
}

-- the row above the first row of the middle tile, and the row above a later one
pub above_first : (nine : Nine) (top : ℕ) → top ≡ 0 → three_wide nine.north_west nine.north nine.north_east 63 ≡ area_row nine (top + 63)
above_first nine top is = let at : 63 ≡ top + 63 = omega arith in sym (area_first nine 63 (omega arith)) ∙ ap (area_row nine) at

pub above_later : (nine : Nine) (top : ℕ) → 0 < top → top ≤ 64 → three_wide nine.west nine.here nine.east (top - 1) ≡ area_row nine (top + 63)
above_later nine top later room =
    let at : top - 1 ≡ top + 63 - 64 = omega arith in
    ap (three_wide nine.west nine.here nine.east) at ∙ sym (area_second nine (top + 63) (omega arith) (omega arith))

-- the row below its last row, and the row below eight others
pub below_last : (nine : Nine) (top : ℕ) → top ≡ 56 → three_wide nine.south_west nine.south nine.south_east 0 ≡ area_row nine (top + 72)
below_last nine top is =
    let at : 0 ≡ top + 72 - 128 = omega arith in
    ap (three_wide nine.south_west nine.south nine.south_east) at ∙ sym (area_third nine (top + 72) (omega arith))

pub below_others : (nine : Nine) (top : ℕ) → top < 56 → three_wide nine.west nine.here nine.east (top + 8) ≡ area_row nine (top + 72)
below_others nine top room =
    let at : top + 8 ≡ top + 72 - 64 = omega arith in
    ap (three_wide nine.west nine.here nine.east) at ∙ sym (area_second nine (top + 72) (omega arith) (omega arith))

-- ---- the next generation

around_in_nine : (window : Window) (nine : Nine) (top : ℕ) → IsWindowOf window nine top → (x y : ℕ) → y < 8 →
    sum_around (window_cell window) (x + 63) y ≡ sum_around (area_cell nine) (x + 63) (top + y + 63)
around_in_nine window nine top is x y below =
    let first : top + 63 + y ≡ top + y + 63 = omega arith in
    let second : top + 63 + (y + 1) ≡ top + y + 63 + 1 = omega arith in
    let third : top + 63 + (y + 2) ≡ top + y + 63 + 2 = omega arith in
    let row_first : window_row window y ≡ area_row nine (top + y + 63) = is.row y (omega arith) ∙ ap (area_row nine) first in
    let row_second : window_row window (y + 1) ≡ area_row nine (top + y + 63 + 1) = is.row (y + 1) (omega arith) ∙ ap (area_row nine) second in
    let row_third : window_row window (y + 2) ≡ area_row nine (top + y + 63 + 2) = is.row (y + 2) (omega arith) ∙ ap (area_row nine) third in
    λ i.
    bit_at (row_first i) (x + 63) + bit_at (row_first i) (x + 63 + 1) + bit_at (row_first i) (x + 63 + 2)
    + bit_at (row_second i) (x + 63) + bit_at (row_second i) (x + 63 + 2)
    + bit_at (row_third i) (x + 63) + bit_at (row_third i) (x + 63 + 1) + bit_at (row_third i) (x + 63 + 2)

-- what is next in a window is next among the nine
pub next_in_nine : (rule : Rule) (window : Window) (nine : Nine) (top : ℕ) → IsWindowOf window nine top → (x y : ℕ) → x < 64 → y < 8 →
    next_in_window rule window x y ≡ next_in_area rule nine x (top + y)
next_in_nine rule window nine top is x y column below =
    let moved : top + 63 + (y + 1) ≡ top + y + 64 = omega arith in
    let row : window_row window (y + 1) ≡ area_row nine (top + y + 64) = is.row (y + 1) (omega arith) ∙ ap (area_row nine) moved in
    λ i. next_state rule (bit_at (row i) (x + 64)) (around_in_nine window nine top is x y below i)
