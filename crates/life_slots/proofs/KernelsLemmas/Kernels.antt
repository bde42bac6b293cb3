-- What strands, windows and tiles add up and answer, where they hold cells of a set.
use Rattle.std.proofs.Common.{◌≡◌, ℕ, ℤ, pos, ◌+ℤ◌, ◌-ℤ◌, ◌+◌, ◌<◌, ◌≤◌, sym, ap, subst, ◌∙◌, arith}
use Rattle.std.specs.Int.{bit_at}
use Rattle.std.proofs.lemmas.Int.{ints}
use Rattle.life_model.specs.Rule.{Rule}
use Rattle.life_model.specs.Generation.{Generation}
use Rattle.life_model.specs.Evolution.{count, next}
use Rattle.life_plane.specs.declared.strand.Strand.{Strand}
use Rattle.life_plane.specs.Bits.{IsStrandOf, neighbour_count, next_state}
use Rattle.life_plane.specs.Area.{Nine, area_row, area_cell, next_in_area, sum_around}
use Rattle.life_plane.specs.declared.window.Window.{Window}
use Rattle.life_plane.specs.Windows.{IsWindowOf, next_in_window, window_cell, window_row}
use Rattle.life_slots.specs.Kernels.Rows.{state, IsRowAt, AreRowsAt, IsWindowAt, IsNineAt}
use Rattle.life_slots.proofs.KernelsLemmas.Counts.{three_rows, next_by_bit}

-- ---- strands

module _ (G : Generation) (left y : ℤ) (above here below : ℕ) (up mid down : Strand) (rows : AreRowsAt G (record { left = left; y = y; above = above; here = here; below = below }))
    (u : IsStrandOf up above) (m : IsStrandOf mid here) (d : IsStrandOf down below) where
  pub strands_count : (j : ℕ) → j < 64 → neighbour_count up mid down j ≡ count G (left +ℤ pos j, y)
  strands_count j column =
      let one_on : j + 64 ≡ j + 63 + 1 = omega arith in
      let two_on : j + 65 ≡ j + 63 + 2 = omega arith in
      rw (u.west j column, u.here j column, u.east j column, m.west j column, m.east j column, d.west j column, d.here j column, d.east j column, one_on, two_on)
      (three_rows G left y above here below j column rows.above rows.here rows.below)

  pub strands_next : (R : Rule) (j : ℕ) → j < 64 → next_state R (bit_at mid.here j) (neighbour_count up mid down j) ≡ state (next R G) (left +ℤ pos j, y)
  strands_next R j column =
      ap (λ (bit : ℕ). next_state R bit (neighbour_count up mid down j)) (m.here j column)
      ∙ next_by_bit R G left y here (neighbour_count up mid down j) j column rows.here (strands_count j column)

-- ---- three rows of many, whose places are given

module _ (G : Generation) (left y : ℤ) (rows : ℕ → ℕ) (n : ℕ) (first second third : ℤ)
    (above : IsRowAt G left first (rows n)) (here : IsRowAt G left second (rows (n + 1))) (below : IsRowAt G left third (rows (n + 2)))
    (first_is : first ≡ (y -ℤ pos 1)) (second_is : second ≡ y) (third_is : third ≡ (y +ℤ pos 1)) where
  rows_count : (x : ℕ) → x < 64 → sum_around (λ a b. bit_at (rows b) a) (x + 63) n ≡ count G (left +ℤ pos x, y)
  rows_count x column =
      three_rows G left y (rows n) (rows (n + 1)) (rows (n + 2)) x column
      (subst (λ (v : ℤ). IsRowAt G left v (rows n)) first_is above)
      (subst (λ (v : ℤ). IsRowAt G left v (rows (n + 1))) second_is here)
      (subst (λ (v : ℤ). IsRowAt G left v (rows (n + 2))) third_is below)

  rows_next : (R : Rule) (x : ℕ) → x < 64 →
      next_state R (bit_at (rows (n + 1)) (x + 64)) (sum_around (λ a b. bit_at (rows b) a) (x + 63) n) ≡ state (next R G) (left +ℤ pos x, y)
  rows_next R x column =
      next_by_bit R G left y (rows (n + 1)) _ x column (subst (λ (v : ℤ). IsRowAt G left v (rows (n + 1))) second_is here) (rows_count x column)

-- ---- windows

module _ (G : Generation) (left top : ℤ) (window : Window) (is : IsWindowAt G left top window) where
  pub window_counts : (x y : ℕ) → x < 64 → y < 8 → sum_around (window_cell window) (x + 63) y ≡ count G (left +ℤ pos x, top +ℤ pos y)
  window_counts x y column row =
      rows_count G left (top +ℤ pos y) (window_row window) y _ _ _
      (is.row y (omega arith)) (is.row (y + 1) (omega arith)) (is.row (y + 2) (omega arith))
      (omega (arith, ints)) (omega (arith, ints)) (omega (arith, ints)) x column

  pub window_next : (R : Rule) (x y : ℕ) → x < 64 → y < 8 → next_in_window R window x y ≡ state (next R G) (left +ℤ pos x, top +ℤ pos y)
  window_next R x y column row =
      rows_next G left (top +ℤ pos y) (window_row window) y _ _ _
      (is.row y (omega arith)) (is.row (y + 1) (omega arith)) (is.row (y + 2) (omega arith))
      (omega (arith, ints)) (omega (arith, ints)) (omega (arith, ints)) R x column

-- ---- tiles

module _ (G : Generation) (left top : ℤ) (nine : Nine) (is : IsNineAt G left top nine) where
  pub nine_counts : (x y : ℕ) → x < 64 → y < 64 → sum_around (area_cell nine) (x + 63) (y + 63) ≡ count G (left +ℤ pos x, top +ℤ pos y)
  nine_counts x y column row =
      rows_count G left (top +ℤ pos y) (area_row nine) (y + 63) _ _ _
      (is.row (y + 63) (omega arith) (omega arith)) (is.row (y + 63 + 1) (omega arith) (omega arith)) (is.row (y + 63 + 2) (omega arith) (omega arith))
      (omega (arith, ints)) (omega (arith, ints)) (omega (arith, ints)) x column

  pub nine_next : (R : Rule) (x y : ℕ) → x < 64 → y < 64 → next_in_area R nine x y ≡ state (next R G) (left +ℤ pos x, top +ℤ pos y)
  nine_next R x y column row =
      let one_on : y + 64 ≡ y + 63 + 1 = omega arith in
      ap (λ (v : ℕ). next_state R (area_cell nine (x + 64) v) (sum_around (area_cell nine) (x + 63) (y + 63))) one_on
      ∙ rows_next G left (top +ℤ pos y) (area_row nine) (y + 63) _ _ _
      (is.row (y + 63) (omega arith) (omega arith)) (is.row (y + 63 + 1) (omega arith) (omega arith)) (is.row (y + 63 + 2) (omega arith) (omega arith))
      (omega (arith, ints)) (omega (arith, ints)) (omega (arith, ints)) R x column

  pub nine_window : (window : Window) (from : ℕ) → from ≤ 56 → IsWindowOf window nine from → IsWindowAt G left (top +ℤ pos from) window
  nine_window window from small of = record {
    row = λ y less.
        let place : ((top -ℤ pos 64) +ℤ pos (from + 63 + y)) ≡ (((top +ℤ pos from) -ℤ pos 1) +ℤ pos y) = omega (arith, ints) in
        subst (λ (bits : ℕ). IsRowAt G left (((top +ℤ pos from) -ℤ pos 1) +ℤ pos y) bits) (sym (of.row y less))
        (subst (λ (v : ℤ). IsRowAt G left v (area_row nine (from + 63 + y))) place (is.row (from + 63 + y) (omega arith) (omega arith)));
  }
