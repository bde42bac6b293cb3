-- The next generation of a square whose edge has no live cell.
use Rattle.std.proofs.Common.{◌≡◌, ℕ, ℤ, pos, neg_ℤ, true, false, refl, ◌+ℤ◌, ◌-ℤ◌, ◌≤ℤ◌, ◌+◌, ◌-◌, ◌<◌, ◌≤◌, ⊎_elim, slice_index, sym, ap, ◌∙◌, arith}
use Rattle.std.specs.Int.{bit_at}
use Rattle.std.proofs.lemmas.Int.{ints, by_lt_z}
use Rattle.std.proofs.lemmas.Bool.{cases_lt, cases_eq}
use Rattle.life_model.specs.Rule.{Rule}
use Rattle.life_model.specs.Cell.{Cell, around, IsNear}
use Rattle.life_model.specs.Generation.{Generation, contains}
use Rattle.life_model.specs.Evolution.{next}
use Rattle.life_model.proofs.Generations.{same_members}
use Rattle.life_model.proofs.Near.{next_near}
use Rattle.life_plane.specs.declared.tile.Tile.{Tile}
use Rattle.life_plane.specs.Bits.{next_state}
use Rattle.life_plane.specs.Area.{three_wide, area_cell, sum_around, tile_cell, next_in_area}
use Rattle.life_plane.proofs.Strips.{strip_low, strip_middle, strip_high}
use Rattle.life_plane.proofs.Joining.{area_first, area_second, area_third}
use Rattle.life_slots.specs.Slots.{empty_tile}
use Rattle.life_slots.specs.Cells.{state_at}
use Rattle.life_slots.proofs.Members.{BlockHas}
use Rattle.life_slots.proofs.Orders.{true_or_false}
use Rattle.life_slots.proofs.Shown.{empty_cell}
use Rattle.life_slots.proofs.Splits.{same_flag}
use Rattle.life_slots.proofs.Windows.{bits_of, regrouped, state_next}
use Rattle.life_board.specs.Squares.{alone, shown, IsInner}
use Rattle.life_board.proofs.States.{live_at, state_inside, state_outside}

-- a row without a live cell
row_none : (a y : ℕ) → a < 192 → bit_at (three_wide empty_tile empty_tile empty_tile y) a ≡ 0
row_none a y wide =
    let row : ℕ = slice_index empty_tile.rows y in
    ⊎_elim
    (λ (first : a < 64). strip_low row row row a first ∙ empty_cell a y)
    (λ (past_first : 64 ≤ a).
    ⊎_elim
    (λ (second : a < 128).
    let back : a - 64 + 64 ≡ a = omega arith in
    sym (ap (bit_at (three_wide empty_tile empty_tile empty_tile y)) back) ∙ strip_middle row row row (a - 64) (omega arith) ∙ empty_cell (a - 64) y)
    (λ (past_second : 128 ≤ a).
    let back : a - 128 + 128 ≡ a = omega arith in
    sym (ap (bit_at (three_wide empty_tile empty_tile empty_tile y)) back) ∙ strip_high row row row (a - 128) (omega arith) ∙ empty_cell (a - 128) y)
    (cases_lt a 128))
    (cases_lt a 64)

-- a number is one of the 64 from a number on
record Beside (z from : ℤ) : Type 0 where
  n : ℕ
  small : n < 64
  is : z ≡ (from +ℤ pos n)

module _ (left top : ℤ) (tile : Tile) where
  abbrev here : Generation
  here = shown left top tile

  -- a row of the tile, with none beside it
  row_alone : (a y : ℕ) (across down : ℤ) → a < 192 → y < 64 → across ≡ ((left -ℤ pos 64) +ℤ pos a) → down ≡ (top +ℤ pos y) →
      state_at here across down ≡ bit_at (three_wide empty_tile tile empty_tile y) a
  row_alone a y across down wide high across_is down_is =
      let none : ℕ = slice_index empty_tile.rows y in
      let row : ℕ = slice_index tile.rows y in
      ⊎_elim
      (λ (first : a < 64).
      state_outside left top tile across down (λ p q p_in q_in x_is y_is. absurd (omega (arith, ints)))
      ∙ sym (strip_low none row none a first ∙ empty_cell a y))
      (λ (past_first : 64 ≤ a).
      ⊎_elim
      (λ (second : a < 128).
      let inside : a - 64 < 64 = omega arith in
      let e : across ≡ (left +ℤ pos (a - 64)) = omega (arith, ints) in
      let back : a - 64 + 64 ≡ a = omega arith in
      (λ i. state_at here (e i) (down_is i))
      ∙ state_inside left top tile (a - 64) y inside high
      ∙ sym (strip_middle none row none (a - 64) inside)
      ∙ ap (bit_at (three_wide empty_tile tile empty_tile y)) back)
      (λ (past_second : 128 ≤ a).
      let back : a - 128 + 128 ≡ a = omega arith in
      state_outside left top tile across down (λ p q p_in q_in x_is y_is. absurd (omega (arith, ints)))
      ∙ sym (sym (ap (bit_at (three_wide empty_tile tile empty_tile y)) back) ∙ strip_high none row none (a - 128) (omega arith) ∙ empty_cell (a - 128) y))
      (cases_lt a 128))
      (cases_lt a 64)

  window : (a b : ℕ) (across down : ℤ) → a < 192 → b < 192 → across ≡ ((left -ℤ pos 64) +ℤ pos a) → down ≡ ((top -ℤ pos 64) +ℤ pos b) →
      state_at here across down ≡ area_cell (alone tile) a b
  window a b across down wide high across_is down_is =
      ⊎_elim
      (λ (first : b < 64).
      state_outside left top tile across down (λ p q p_in q_in x_is y_is. absurd (omega (arith, ints)))
      ∙ sym (ap (λ w. bit_at w a) (area_first (alone tile) b first) ∙ row_none a b wide))
      (λ (past_first : 64 ≤ b).
      ⊎_elim
      (λ (second : b < 128).
      row_alone a (b - 64) across down wide (omega arith) across_is (omega (arith, ints))
      ∙ sym (ap (λ w. bit_at w a) (area_second (alone tile) b past_first second)))
      (λ (past_second : 128 ≤ b).
      state_outside left top tile across down (λ p q p_in q_in x_is y_is. absurd (omega (arith, ints)))
      ∙ sym (ap (λ w. bit_at w a) (area_third (alone tile) b past_second) ∙ row_none a (b - 128) wide))
      (cases_lt b 128))
      (cases_lt b 64)

  counts : (x y : ℕ) (across down : ℤ) → x < 64 → y < 64 → across ≡ (left +ℤ pos x) → down ≡ (top +ℤ pos y) →
      bits_of (contains here) (around (across, down)) ≡ sum_around (area_cell (alone tile)) (x + 63) (y + 63)
  counts x y across down p q across_is down_is =
      regrouped _ _ _ _ _ _ _ _ _ _ _ _ _ _ _ _
      (window (x + 63) (y + 63) (across +ℤ neg_ℤ (pos 1)) (down +ℤ neg_ℤ (pos 1)) (omega arith) (omega arith) (omega (arith, ints)) (omega (arith, ints)))
      (window (x + 63 + 1) (y + 63) (across +ℤ pos 0) (down +ℤ neg_ℤ (pos 1)) (omega arith) (omega arith) (omega (arith, ints)) (omega (arith, ints)))
      (window (x + 63 + 2) (y + 63) (across +ℤ pos 1) (down +ℤ neg_ℤ (pos 1)) (omega arith) (omega arith) (omega (arith, ints)) (omega (arith, ints)))
      (window (x + 63) (y + 63 + 1) (across +ℤ neg_ℤ (pos 1)) (down +ℤ pos 0) (omega arith) (omega arith) (omega (arith, ints)) (omega (arith, ints)))
      (window (x + 63 + 2) (y + 63 + 1) (across +ℤ pos 1) (down +ℤ pos 0) (omega arith) (omega arith) (omega (arith, ints)) (omega (arith, ints)))
      (window (x + 63) (y + 63 + 2) (across +ℤ neg_ℤ (pos 1)) (down +ℤ pos 1) (omega arith) (omega arith) (omega (arith, ints)) (omega (arith, ints)))
      (window (x + 63 + 1) (y + 63 + 2) (across +ℤ pos 0) (down +ℤ pos 1) (omega arith) (omega arith) (omega (arith, ints)) (omega (arith, ints)))
      (window (x + 63 + 2) (y + 63 + 2) (across +ℤ pos 1) (down +ℤ pos 1) (omega arith) (omega arith) (omega (arith, ints)) (omega (arith, ints)))

  pub next_alone : (rule : Rule) (x y : ℕ) → x < 64 → y < 64 → next_in_area rule (alone tile) x y ≡ state_at (next rule here) (left +ℤ pos x) (top +ℤ pos y)
  next_alone rule x y p q =
      let wide : x + 64 < 192 = omega arith in
      let high : y + 64 < 192 = omega arith in
      let across : (left +ℤ pos x) ≡ ((left -ℤ pos 64) +ℤ pos (x + 64)) = omega (arith, ints) in
      let down : (top +ℤ pos y) ≡ ((top -ℤ pos 64) +ℤ pos (y + 64)) = omega (arith, ints) in
      sym
      (state_next rule here (left +ℤ pos x, top +ℤ pos y)
      ∙ (λ i. next_state rule
      (window (x + 64) (y + 64) (left +ℤ pos x) (top +ℤ pos y) wide high across down i)
      (counts x y (left +ℤ pos x) (top +ℤ pos y) p q refl refl i)))

  -- a live cell is not at the edge
  record IsWithinEdge (x y : ℕ) : Type 0 where
    west : 0 < x
    east : x < 63
    north : 0 < y
    south : y < 63

  within_edge : IsInner tile → (x y : ℕ) → x < 64 → y < 64 → tile_cell tile x y ≡ 1 → IsWithinEdge x y
  within_edge inner x y wide high one = record {
    west = ⊎_elim (λ (e : x ≡ 0). let never : 1 ≡ 0 = sym one ∙ ap (λ n. tile_cell tile n y) e ∙ inner.west y high in absurd (omega arith)) (λ other. omega arith) (cases_eq x 0);
    east = ⊎_elim (λ (e : x ≡ 63). let never : 1 ≡ 0 = sym one ∙ ap (λ n. tile_cell tile n y) e ∙ inner.east y high in absurd (omega arith)) (λ other. omega arith) (cases_eq x 63);
    north = ⊎_elim (λ (e : y ≡ 0). let never : 1 ≡ 0 = sym one ∙ ap (tile_cell tile x) e ∙ inner.north x wide in absurd (omega arith)) (λ other. omega arith) (cases_eq y 0);
    south = ⊎_elim (λ (e : y ≡ 63). let never : 1 ≡ 0 = sym one ∙ ap (tile_cell tile x) e ∙ inner.south x wide in absurd (omega arith)) (λ other. omega arith) (cases_eq y 63);
  }

  record Stands (q : Cell) : Type 0 where
    x : ℕ
    y : ℕ
    wide : x < 64
    high : y < 64
    across : q.0 ≡ (left +ℤ pos x)
    down : q.1 ≡ (top +ℤ pos y)

  -- the cells of the next generation are in the square
  next_stands : IsInner tile → (rule : Rule) (q : Cell) → contains (next rule here) q ≡ true → Stands q
  next_stands inner rule q is =
      let near = next_near rule here q is in
      let b : BlockHas left top tile.rows 64 near.0 = live_at left top tile near.0 near.1 in
      let edge : IsWithinEdge b.row.j b.i = within_edge inner b.row.j b.i b.row.inside b.inside b.row.set_bit in
      let across : near.0.0 ≡ (left +ℤ pos b.row.j) = ap (λ (c : Cell). c.0) b.row.is in
      let down : near.0.1 ≡ (top +ℤ pos b.i) = ap (λ (c : Cell). c.1) b.row.is in
      stands q near.0 b.row.j b.i edge across down near.2
    where
      apart : (z s : ℤ) (j : ℕ) (g : ℤ) → g ≡ (s +ℤ pos j) → 0 < j → j < 63 → (g -ℤ pos 1) ≤ℤ z → z ≤ℤ (g +ℤ pos 1) → Beside z s
      apart z s j g is later small from to =
          by_lt_z z g
          (λ before. record { n = j - 1; small = omega arith; is = omega (arith, ints) })
          (λ not_before.
          by_lt_z g z
          (λ behind. record { n = j + 1; small = omega arith; is = omega (arith, ints) })
          (λ not_behind. record { n = j; small = omega arith; is = omega (arith, ints) }))

      stands : (q g : Cell) (j i : ℕ) → IsWithinEdge j i → g.0 ≡ (left +ℤ pos j) → g.1 ≡ (top +ℤ pos i) → IsNear q g → Stands q
      stands q g j i edge across down near =
          let a : Beside q.0 left = apart q.0 left j g.0 across edge.west edge.east near.left near.right in
          let b : Beside q.1 top = apart q.1 top i g.1 down edge.north edge.south near.above near.below in
          record { x = a.n; y = b.n; wide = a.small; high = b.small; across = a.is; down = b.is }

  -- the square's next generation is the generation's
  pub next_shown : IsInner tile → (rule : Rule) (after : Tile) → ((x y : ℕ) → x < 64 → y < 64 → tile_cell after x y ≡ next_in_area rule (alone tile) x y) →
      shown left top after ≡ next rule here
  next_shown inner rule after worked =
      same_members (shown left top after) (next rule here)
      (λ q.
      ⊎_elim
      (λ (live : contains (shown left top after) q ≡ true).
      let b : BlockHas left top after.rows 64 q = live_at left top after q live in
      same_at q b.row.j b.i b.row.inside b.inside b.row.is)
      (λ (dead : contains (shown left top after) q ≡ false).
      ⊎_elim
      (λ (later : contains (next rule here) q ≡ true).
      let s : Stands q = next_stands inner rule q later in
      same_at q s.x s.y s.wide s.high (λ i. (s.across i, s.down i)))
      (λ (never : contains (next rule here) q ≡ false). dead ∙ sym never)
      (true_or_false (contains (next rule here) q)))
      (true_or_false (contains (shown left top after) q)))
    where
      same_at : (q : Cell) (x y : ℕ) → x < 64 → y < 64 → q ≡ (left +ℤ pos x, top +ℤ pos y) → contains (shown left top after) q ≡ contains (next rule here) q
      same_at q x y wide high is =
          ap (contains (shown left top after)) is
          ∙ same_flag _ _ (state_inside left top after x y wide high ∙ worked x y wide high ∙ next_alone rule x y wide high)
          ∙ sym (ap (contains (next rule here)) is)
