-- A cell is live exactly if its bit of the square is set.
use Rattle.std.proofs.Common.{◌≡◌, ℕ, ℤ, pos, ◌+ℤ◌, ◌<◌, ⊎_elim, true, false, slice_index, sym, ap, ◌∙◌, arith}
use Rattle.std.proofs.lemmas.Int.{ints}
use Rattle.life_model.specs.Cell.{Cell}
use Rattle.life_model.specs.Generation.{contains}
use Rattle.life_model.proofs.Generations.{contains-from_list}
use Rattle.life_plane.specs.declared.tile.Tile.{Tile}
use Rattle.life_plane.specs.Area.{tile_cell}
use Rattle.life_plane.specs.Flags.{as_bit}
use Rattle.life_slots.specs.Cells.{block_cells, state_at}
use Rattle.life_slots.proofs.Bits.{bit_cases}
use Rattle.life_slots.proofs.Orders.{true_or_false}
use Rattle.life_slots.proofs.Members.{Has, BlockHas, block_has, block_in, row_in}
use Rattle.life_board.specs.Squares.{shown}

module _ (left top : ℤ) (tile : Tile) where
  shown_has : (q : Cell) → contains (shown left top tile) q ≡ true → Has (block_cells left top tile.rows 64) q
  unfolding shown Has
  shown_has q is = sym (contains-from_list (block_cells left top tile.rows 64) q) ∙ is

  has_shown : (q : Cell) → Has (block_cells left top tile.rows 64) q → contains (shown left top tile) q ≡ true
  unfolding shown Has
  has_shown q has = contains-from_list (block_cells left top tile.rows 64) q ∙ has

  -- the column and the row of a live cell
  pub live_at : (q : Cell) → contains (shown left top tile) q ≡ true → BlockHas left top tile.rows 64 q
  live_at q is = block_has left top tile.rows 64 q (shown_has q is)

  pub is_live : (x y : ℕ) → x < 64 → y < 64 → tile_cell tile x y ≡ 1 → contains (shown left top tile) (left +ℤ pos x, top +ℤ pos y) ≡ true
  is_live x y wide high one =
      has_shown (left +ℤ pos x, top +ℤ pos y)
      (block_in left top tile.rows 64 y (left +ℤ pos x, top +ℤ pos y) high (row_in left (top +ℤ pos y) (slice_index tile.rows y) 64 x wide one))

  pub bit_live : (x y : ℕ) → contains (shown left top tile) (left +ℤ pos x, top +ℤ pos y) ≡ true → tile_cell tile x y ≡ 1
  bit_live x y is =
      let b : BlockHas left top tile.rows 64 (left +ℤ pos x, top +ℤ pos y) = live_at (left +ℤ pos x, top +ℤ pos y) is in
      let across : (left +ℤ pos x) ≡ (left +ℤ pos b.row.j) = ap (λ (c : Cell). c.0) b.row.is in
      let down : (top +ℤ pos y) ≡ (top +ℤ pos b.i) = ap (λ (c : Cell). c.1) b.row.is in
      let x_is : x ≡ b.row.j = omega (arith, ints) in
      let y_is : y ≡ b.i = omega (arith, ints) in
      (λ i. tile_cell tile (x_is i) (y_is i)) ∙ b.row.set_bit

  pub state_inside : (x y : ℕ) → x < 64 → y < 64 → state_at (shown left top tile) (left +ℤ pos x) (top +ℤ pos y) ≡ tile_cell tile x y
  state_inside x y wide high =
      ⊎_elim
      (λ (one : tile_cell tile x y ≡ 1). ap as_bit (is_live x y wide high one) ∙ sym one)
      (λ (none : tile_cell tile x y ≡ 0).
      ⊎_elim
      (λ (live : contains (shown left top tile) (left +ℤ pos x, top +ℤ pos y) ≡ true).
      let one : tile_cell tile x y ≡ 1 = bit_live x y live in
      let never : 1 ≡ 0 = sym one ∙ none in
      absurd (omega arith))
      (λ (dead : contains (shown left top tile) (left +ℤ pos x, top +ℤ pos y) ≡ false). ap as_bit dead ∙ sym none)
      (true_or_false (contains (shown left top tile) (left +ℤ pos x, top +ℤ pos y))))
      (bit_cases (slice_index tile.rows y) x)

  -- no cell outside is live
  pub state_outside : (X Y : ℤ) → ((x y : ℕ) → x < 64 → y < 64 → X ≡ (left +ℤ pos x) → Y ≡ (top +ℤ pos y) → ⊥) → state_at (shown left top tile) X Y ≡ 0
  state_outside X Y outside =
      ⊎_elim
      (λ (live : contains (shown left top tile) (X, Y) ≡ true).
      let b : BlockHas left top tile.rows 64 (X, Y) = live_at (X, Y) live in
      absurd (outside b.row.j b.i b.row.inside b.inside (ap (λ (c : Cell). c.0) b.row.is) (ap (λ (c : Cell). c.1) b.row.is)))
      (λ (dead : contains (shown left top tile) (X, Y) ≡ false). ap as_bit dead)
      (true_or_false (contains (shown left top tile) (X, Y)))
