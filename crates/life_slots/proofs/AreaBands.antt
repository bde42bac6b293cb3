-- A band of an area that has the cells of a set, but for some rows and columns at its edge.
use Rattle.std.proofs.Common.{◌≡◌, ℕ, pos, ◌+ℤ◌, ◌-ℤ◌, ◌+◌, ◌-◌, ◌<◌, ◌≤◌, slice_index, sym, ap, ◌∙◌, arith}
use Rattle.std.specs.Int.{bit_at}
use Rattle.std.proofs.lemmas.Int.{ints}
use Rattle.life_model.specs.Rule.{Rule}
use Rattle.life_model.specs.Cell.{Cell, plus}
use Rattle.life_model.specs.Generation.{Generation}
use Rattle.life_model.specs.Evolution.{next}
use Rattle.life_plane.specs.Area.{Nine, tile_cell}
use Rattle.life_plane.specs.declared.window.Window.{Window}
use Rattle.life_plane.specs.Windows.{IsWindowOf, next_in_window, window_row}
use Rattle.life_plane.proofs.Joining.{area_second}
use Rattle.life_plane.proofs.Strips.{strip_middle}
use Rattle.life_slots.specs.Kernels.Rows.{state, IsWindowAt}
use Rattle.life_slots.proofs.KernelsLemmas.Kernels.{window_next}
use Rattle.life_slots.proofs.KernelsLemmas.Sets.{window_of_set}
use Rattle.life_slots.specs.Areas.{ShowsWithin}
use Rattle.life_slots.proofs.Local.{AreAlikeAround, same_next}

module _ (G : Generation) (place : Cell) (rim : ℕ) (window : Window) (nine : Nine) (top : ℕ) (is : IsWindowOf window nine top)
    (shows : ShowsWithin rim nine.here G place) where
  -- a cell of the window, in a row of the area
  cell_is : (k x row : ℕ) → k < 10 → row + 1 ≡ top + k → rim ≤ x → x + rim < 64 → rim ≤ row → row + rim < 64 →
      bit_at (window_row window k) (x + 64) ≡ state G (plus place (pos x, pos row))
  cell_is k x row less at west east north south =
      let back : top + 63 + k - 64 ≡ row = omega arith in
      ap (λ w. bit_at w (x + 64)) (is.row k less ∙ area_second nine (top + 63 + k) (omega arith) (omega arith))
      ∙ strip_middle (slice_index nine.west.rows (top + 63 + k - 64)) (slice_index nine.here.rows (top + 63 + k - 64)) (slice_index nine.east.rows (top + 63 + k - 64)) x (omega arith)
      ∙ ap (tile_cell nine.here x) back
      ∙ shows.cell x row west east north south

  module _ (H : Generation) (at : IsWindowAt H place.0 (place.1 +ℤ pos top) window) (x y : ℕ)
      (west : rim + 1 ≤ x) (east : x + (rim + 1) < 64) (high : y < 8) (north : rim + 1 ≤ top + y) (south : top + y + (rim + 1) < 64) where
    alike_at : (a b column row : ℕ) → a < 3 → b < 3 → column + 1 ≡ x + a → row + 1 ≡ top + (y + b) →
        state H (((place.0 +ℤ pos x) -ℤ pos 1) +ℤ pos a, (((place.1 +ℤ pos top) +ℤ pos y) -ℤ pos 1) +ℤ pos b)
        ≡ state G (((place.0 +ℤ pos x) -ℤ pos 1) +ℤ pos a, (((place.1 +ℤ pos top) +ℤ pos y) -ℤ pos 1) +ℤ pos b)
    alike_at a b column row wide tall column_is row_is =
        let across : (((place.0 +ℤ pos x) -ℤ pos 1) +ℤ pos a) ≡ ((place.0 -ℤ pos 64) +ℤ pos (column + 64)) = omega (arith, ints) in
        let down : ((((place.1 +ℤ pos top) +ℤ pos y) -ℤ pos 1) +ℤ pos b) ≡ (((place.1 +ℤ pos top) -ℤ pos 1) +ℤ pos (y + b)) = omega (arith, ints) in
        let across_here : (place.0 +ℤ pos column) ≡ (((place.0 +ℤ pos x) -ℤ pos 1) +ℤ pos a) = omega (arith, ints) in
        let down_here : (place.1 +ℤ pos row) ≡ ((((place.1 +ℤ pos top) +ℤ pos y) -ℤ pos 1) +ℤ pos b) = omega (arith, ints) in
        (λ i. state H (across i, down i))
        ∙ sym ((at.row (y + b) (omega arith)).bit (column + 64) (omega arith) (omega arith))
        ∙ cell_is (y + b) column row (omega arith) row_is (omega arith) (omega arith) (omega arith) (omega arith)
        ∙ (λ i. state G (across_here i, down_here i))

    alike : AreAlikeAround H G (place.0 +ℤ pos x) ((place.1 +ℤ pos top) +ℤ pos y)
    alike = record { same = λ a b wide tall. alike_at a b (x + a - 1) (top + (y + b) - 1) wide tall (omega arith) (omega arith) }

  -- a cell of the band, one generation later
  pub band_cell : (R : Rule) (x y : ℕ) → rim + 1 ≤ x → x + (rim + 1) < 64 → y < 8 → rim + 1 ≤ top + y → top + y + (rim + 1) < 64 →
      next_in_window R window x y ≡ state (next R G) (plus place (pos x, pos (top + y)))
  band_cell R x y west east high north south =
      let some = window_of_set place.0 (place.1 +ℤ pos top) window in
      let down : ((place.1 +ℤ pos top) +ℤ pos y) ≡ (place.1 +ℤ pos (top + y)) = omega (arith, ints) in
      window_next some.0 place.0 (place.1 +ℤ pos top) window some.1 R x y (omega arith) high
      ∙ same_next some.0 G _ _ (alike some.0 some.1 x y west east high north south) R
      ∙ (λ i. state (next R G) (place.0 +ℤ pos x, down i))
