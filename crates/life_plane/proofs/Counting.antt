-- The sums of three rows count the live cells around the cells of the middle row.
use Rattle.std.proofs.Common.{◌≡◌, ℕ, ◌+◌, ◌*◌, ◌<◌, ◌≤◌, slice_index, sym, ap, ◌∙◌, arith}
use Rattle.std.specs.Int.{bit_at}
use Rattle.std.proofs.lemmas.Nat.Bits.{bit_at-lt}
use Rattle.life_model.specs.Rule.{Rule}
use Rattle.life_plane.specs.Bits.{next_state}
use Rattle.life_plane.specs.Area.{sum_around}
use Rattle.life_plane.proofs.Strips.{strip_middle}
use Rattle.life_plane.specs.declared.window.Window.{Window}
use Rattle.life_plane.specs.declared.band_sums.BandSums.{BandSums}
use Rattle.life_plane.specs.Windows.{window_row, window_cell, next_in_window, IsSumsOf}
use Rattle.life_plane.proofs.Joining.{row_inside}

-- three rows of two and three cells, whose ones are added
added : (u u2 m m2 d d2 p k a b c e g f h i : ℕ) →
    u + 2 * u2 ≡ a + b + c → m + 2 * m2 ≡ e + g → d + 2 * d2 ≡ f + h + i → p + 2 * k ≡ u + d + m →
    p + 2 * (u2 + d2 + m2 + k) ≡ a + b + c + e + g + f + h + i
added u u2 m m2 d d2 p k a b c e g f h i up mid down ones = omega arith

-- what the ones add up to, and the twos
pub counted : (sums : BandSums) (window : Window) → IsSumsOf sums window → (x y : ℕ) → x < 64 → y < 8 → (ones twos : ℕ) →
    bit_at ones x + 2 * bit_at twos x ≡ bit_at (slice_index sums.three_ones y) x + bit_at (slice_index sums.three_ones (y + 2)) x + bit_at (slice_index sums.two_ones y) x →
    bit_at ones x + 2 * (bit_at (slice_index sums.three_twos y) x + bit_at (slice_index sums.three_twos (y + 2)) x + bit_at (slice_index sums.two_twos y) x + bit_at twos x)
    ≡ sum_around (window_cell window) (x + 63) y
counted sums window is x y column row ones twos sum =
    let one_on : x + 64 ≡ x + 63 + 1 = omega arith in
    let two_on : x + 65 ≡ x + 63 + 2 = omega arith in
    added _ _ _ _ _ _ _ _ _ _ _ _ _ _ _ _
    (is.three y (omega arith) x column
    ∙ (λ j. window_cell window (x + 63) y + window_cell window (one_on j) y + window_cell window (two_on j) y))
    (is.two y row x column
    ∙ (λ j. window_cell window (x + 63) (y + 1) + window_cell window (two_on j) (y + 1)))
    (is.three (y + 2) (omega arith) x column
    ∙ (λ j. window_cell window (x + 63) (y + 2) + window_cell window (one_on j) (y + 2) + window_cell window (two_on j) (y + 2)))
    sum

pub at_most_eight : (a b c d e f g h : ℕ) → a < 2 → b < 2 → c < 2 → d < 2 → e < 2 → f < 2 → g < 2 → h < 2 → a + b + c + d + e + f + g + h ≤ 8
at_most_eight a b c d e f g h as_ bs cs ds es fs gs hs = omega arith

-- no cell has more than eight live neighbours
pub eight_around : (window : Window) (x y : ℕ) → sum_around (window_cell window) x y ≤ 8
eight_around window x y =
    at_most_eight _ _ _ _ _ _ _ _
    (bit_at-lt (window_row window y) x) (bit_at-lt (window_row window y) (x + 1)) (bit_at-lt (window_row window y) (x + 2))
    (bit_at-lt (window_row window (y + 1)) x) (bit_at-lt (window_row window (y + 1)) (x + 2))
    (bit_at-lt (window_row window (y + 2)) x) (bit_at-lt (window_row window (y + 2)) (x + 1)) (bit_at-lt (window_row window (y + 2)) (x + 2))

-- the cell itself
pub here_at : (window : Window) (x y : ℕ) → x < 64 → y < 8 →
    bit_at (slice_index window.here.now.rows (window.top + y)) x ≡ window_cell window (x + 64) (y + 1)
here_at window x y column row =
    sym (strip_middle (slice_index window.west.now.rows (window.top + y)) (slice_index window.here.now.rows (window.top + y)) (slice_index window.east.now.rows (window.top + y)) x column)
    ∙ sym (ap (λ bits. bit_at bits (x + 64)) (row_inside window y row))

-- what a rule makes of a cell and a count
pub next_at : (rule : Rule) (window : Window) (here count x y : ℕ) → x < 64 → y < 8 →
    here ≡ bit_at (slice_index window.here.now.rows (window.top + y)) x → count ≡ sum_around (window_cell window) (x + 63) y →
    next_state rule here count ≡ next_in_window rule window x y
next_at rule window here count x y column row here_is count_is = λ i. next_state rule ((here_is ∙ here_at window x y column row) i) (count_is i)
