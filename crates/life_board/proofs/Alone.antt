-- The rows of a tile with empty ones around it, and what becomes of them.
use Rattle.std.proofs.Common.{◌≡◌, ℕ, ◌+◌, ◌*◌, ◌-◌, ◌<◌, ◌≤◌, ⊎_elim, slice_index, refl, sym, ap, ◌∙◌, arith}
use Rattle.std.specs.Int.{bit_at}
use Rattle.std.proofs.lemmas.Bool.{cases_lt}
use Rattle.std.proofs.lemmas.Nat.Bits.{bit_at-lt, bit_at-zero}
use Rattle.life_model.specs.Rule.{Rule, born}
use Rattle.life_plane.specs.declared.tile.Tile.{Tile}
use Rattle.life_plane.specs.Bits.{wide_row, next_state}
use Rattle.life_plane.specs.Area.{Nine, area_row, area_cell, sum_around, next_in_area}
use Rattle.life_plane.specs.Rows.{IsRowSumsOf}
use Rattle.life_plane.specs.declared.row_sums.RowSums.{RowSums}
use Rattle.life_plane.proofs.Joining.{area_first, area_second, area_third}
use Rattle.life_plane.proofs.OneCell.{zero_in}
use Rattle.life_plane.proofs.Counting.{at_most_eight}
use Rattle.life_slots.specs.Slots.{empty_tile}
use Rattle.life_board.specs.Squares.{alone, around_in, IsVoidOutside}

pub empty_row : (y : ℕ) → slice_index empty_tile.rows y ≡ 0
empty_row y = zero_in 64 y 0 refl

-- a row of the tile
pub row_is : (tile : Tile) (y : ℕ) → y < 64 → area_row (alone tile) (y + 64) ≡ wide_row 0 (slice_index tile.rows y) 0
row_is tile y high =
    let back : y + 64 - 64 ≡ y = omega arith in
    area_second (alone tile) (y + 64) (omega arith) (omega arith)
    ∙ (λ i. wide_row (empty_row (y + 64 - 64) i) (slice_index tile.rows (back i)) (empty_row (y + 64 - 64) i))

-- and the one above the first
pub above_is : (tile : Tile) → area_row (alone tile) 63 ≡ wide_row 0 0 0
above_is tile = area_first (alone tile) 63 (omega arith) ∙ (λ i. wide_row (empty_row 63 i) (empty_row 63 i) (empty_row 63 i))

-- a row, and the one before it, if they have no live cell
pub void_is : (tile : Tile) (y : ℕ) → y < 64 → slice_index tile.rows y ≡ 0 → area_row (alone tile) (y + 64) ≡ wide_row 0 0 0
void_is tile y high void = row_is tile y high ∙ ap (λ w. wide_row 0 w 0) void

pub void_before : (tile : Tile) (y : ℕ) → y < 64 → ((k : ℕ) → k < y → slice_index tile.rows k ≡ 0) → area_row (alone tile) (y + 63) ≡ wide_row 0 0 0
void_before tile y high void =
    ⊎_elim
    (λ (first : y < 1). let at : y + 63 ≡ 63 = omega arith in ap (area_row (alone tile)) at ∙ above_is tile)
    (λ (later : 1 ≤ y). let at : y + 63 ≡ y - 1 + 64 = omega arith in ap (area_row (alone tile)) at ∙ void_is tile (y - 1) (omega arith) (void (y - 1) (omega arith)))
    (cases_lt y 1)

-- ---- one row

summed : (a a2 b b2 c c2 p k s t u v w x y z : ℕ) →
    a + 2 * a2 ≡ s + t + u → b + 2 * b2 ≡ v + w → c + 2 * c2 ≡ x + y + z → p + 2 * k ≡ a + c + b →
    p + 2 * (a2 + c2 + b2 + k) ≡ s + t + u + v + w + x + y + z
summed a a2 b b2 c c2 p k s t u v w x y z up mid down ones = omega arith

-- the sums of three rows count the live cells around
pub counted : (above beside below : RowSums) (a b c : ℕ) → IsRowSumsOf above a → IsRowSumsOf beside b → IsRowSumsOf below c → (x ones twos : ℕ) → x < 64 →
    bit_at ones x + 2 * bit_at twos x ≡ bit_at above.three.ones x + bit_at below.three.ones x + bit_at beside.two.ones x →
    bit_at ones x + 2 * (bit_at above.three.twos x + bit_at below.three.twos x + bit_at beside.two.twos x + bit_at twos x) ≡ around_in a b c x
counted above beside below a b c up mid down x ones twos wide sum =
    summed _ _ _ _ _ _ _ _ _ _ _ _ _ _ _ _ (up.three x wide) (mid.two x wide) (down.three x wide) sum

pub eight_around : (a b c x : ℕ) → around_in a b c x ≤ 8
eight_around a b c x =
    at_most_eight _ _ _ _ _ _ _ _
    (bit_at-lt a (x + 63)) (bit_at-lt a (x + 64)) (bit_at-lt a (x + 65))
    (bit_at-lt b (x + 63)) (bit_at-lt b (x + 65))
    (bit_at-lt c (x + 63)) (bit_at-lt c (x + 64)) (bit_at-lt c (x + 65))

around_is : (nine : Nine) (x y : ℕ) → around_in (area_row nine (y + 63)) (area_row nine (y + 64)) (area_row nine (y + 65)) x ≡ sum_around (area_cell nine) (x + 63) (y + 63)
around_is nine x y =
    let one_on : x + 64 ≡ x + 63 + 1 = omega arith in
    let two_on : x + 65 ≡ x + 63 + 2 = omega arith in
    let row_on : y + 64 ≡ y + 63 + 1 = omega arith in
    let rows_on : y + 65 ≡ y + 63 + 2 = omega arith in
    λ j.
    area_cell nine (x + 63) (y + 63) + area_cell nine (one_on j) (y + 63) + area_cell nine (two_on j) (y + 63)
    + area_cell nine (x + 63) (row_on j) + area_cell nine (two_on j) (row_on j)
    + area_cell nine (x + 63) (rows_on j) + area_cell nine (one_on j) (rows_on j) + area_cell nine (two_on j) (rows_on j)

-- what a rule makes from a cell of a row
pub next_of : (rule : Rule) (nine : Nine) (x y here number : ℕ) → here ≡ bit_at (area_row nine (y + 64)) (x + 64) →
    number ≡ around_in (area_row nine (y + 63)) (area_row nine (y + 64)) (area_row nine (y + 65)) x →
    next_state rule here number ≡ next_in_area rule nine x y
next_of rule nine x y here number here_is number_is = λ i. next_state rule (here_is i) ((number_is ∙ around_is nine x y) i)

unborn : (rule : Rule) → next_state rule 0 0 ≡ 0
unfolding born
unborn rule = refl

-- no cell is born in a row if neither it nor the rows above and below have a live cell
dead_rows : (rule : Rule) (nine : Nine) (x y : ℕ) → area_row nine (y + 63) ≡ wide_row 0 0 0 → area_row nine (y + 64) ≡ wide_row 0 0 0 → area_row nine (y + 65) ≡ wide_row 0 0 0 →
    next_in_area rule nine x y ≡ 0
dead_rows rule nine x y above here below =
    let none : (n : ℕ) → bit_at (wide_row 0 0 0) n ≡ 0 = λ n. bit_at-zero n in
    sym
    (next_of rule nine x y 0 0
    (sym (ap (λ w. bit_at w (x + 64)) here ∙ none (x + 64)))
    (sym ((λ i. around_in (above i) (here i) (below i) x)
    ∙ (λ i. none (x + 63) i + none (x + 64) i + none (x + 65) i + none (x + 63) i + none (x + 65) i + none (x + 63) i + none (x + 64) i + none (x + 65) i))))
    ∙ unborn rule

pub dead_above : (rule : Rule) (tile : Tile) (x y first end : ℕ) → IsVoidOutside tile.rows first end → y + 1 < first → next_in_area rule (alone tile) x y ≡ 0
dead_above rule tile x y first end void before =
    let small = void.order in
    let inside = void.inside in
    let at : y + 65 ≡ y + 1 + 64 = omega arith in
    dead_rows rule (alone tile) x y
    (void_before tile y (omega arith) (λ k less. void.above k (omega arith)))
    (void_is tile y (omega arith) (void.above y (omega arith)))
    (ap (area_row (alone tile)) at ∙ void_is tile (y + 1) (omega arith) (void.above (y + 1) before))

last_below : (tile : Tile) → area_row (alone tile) 128 ≡ wide_row 0 0 0
last_below tile = area_third (alone tile) 128 (omega arith) ∙ (λ i. wide_row (empty_row (128 - 128) i) (empty_row (128 - 128) i) (empty_row (128 - 128) i))

void_after : (tile : Tile) (y first end : ℕ) → IsVoidOutside tile.rows first end → end ≤ y → y < 64 → area_row (alone tile) (y + 65) ≡ wide_row 0 0 0
void_after tile y first end void past high =
    ⊎_elim
    (λ (inside : y < 63).
    let at : y + 65 ≡ y + 1 + 64 = omega arith in
    ap (area_row (alone tile)) at ∙ void_is tile (y + 1) (omega arith) (void.below (y + 1) (omega arith) (omega arith)))
    (λ (last : 63 ≤ y). let at : y + 65 ≡ 128 = omega arith in ap (area_row (alone tile)) at ∙ last_below tile)
    (cases_lt y 63)

pub dead_below : (rule : Rule) (tile : Tile) (x y first end : ℕ) → IsVoidOutside tile.rows first end → end < y → y < 64 → next_in_area rule (alone tile) x y ≡ 0
dead_below rule tile x y first end void past high =
    let at : y + 63 ≡ y - 1 + 64 = omega arith in
    dead_rows rule (alone tile) x y
    (ap (area_row (alone tile)) at ∙ void_is tile (y - 1) (omega arith) (void.below (y - 1) (omega arith) (omega arith)))
    (void_is tile y high (void.below y (omega arith) high))
    (void_after tile y first end void (omega arith) high)
