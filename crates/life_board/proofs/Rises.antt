-- The cells of a square, row by row from west to east, are in order.
use Rattle.std.proofs.Common.{◌≡◌, ℕ, zero, suc, ℤ, pos, ◌+ℤ◌, ◌<ℤ◌, ◌<◌, ◌≤◌, ◌==◌, ⊎_elim, true, false, cond, T, All, List, [], ◌∷◌, ◌++◌, reverse, Less, Equal, slice_index, sym, subst, ap, ◌∙◌, arith, ◌-◌, ◌+◌}
use Rattle.std.specs.Int.{bit_at}
use Rattle.std.specs.Cmp.{int_cmp_is}
use Rattle.std.specs.Ordering.{int_cmp, is_lt, ordering_then}
use Rattle.std.proofs.lemmas.Int.{ints}
use Rattle.std.proofs.lemmas.List.{reverse-append}
use Rattle.life_model.specs.Cell.{Cell, cell_cmp, same_cell}
use Rattle.life_model.specs.Generation.{Generation, contains, from_list, is_rising, below_all}
use Rattle.life_model.proofs.Generations.{contains-from_list, same_members}
use Rattle.life_model.proofs.Tests.{list_any-reverse}
use Rattle.life_cells.specs.Limits.{IsPlace, IsWithin, age_limit}
use Rattle.life_cells.proofs.Sorted.{both_hold}
use Rattle.life_plane.proofs.Later.{place_from_within}
use Rattle.life_slots.proofs.Inserted.{all_listed}
use Rattle.life_plane.specs.declared.tile.Tile.{Tile}
use Rattle.life_slots.specs.Cells.{row_cells, block_cells}
use Rattle.life_slots.proofs.Members.{Has, has_head, has_tail, has_cases, has_none, has_parts, RowHas, row_has, BlockHas, block_has}
use Rattle.life_slots.proofs.Pushed.{block_empty, block_short}
use Rattle.life_slots.proofs.Sizes as sizes
use Rattle.life_slots.proofs.Sizes.{below_has}
use Rattle.life_board.specs.Squares.{shown, IsVoidOutside}

less_below : (a b : Cell) → a.1 <ℤ b.1 → cell_cmp a b ≡ Less
less_below a b above =
    let less : Less ≡ int_cmp a.1 b.1 = int_cmp_is a.1 b.1 Less above in
    ap (λ r. ordering_then r (int_cmp a.0 b.0)) (sym less)

less_beside : (a b : Cell) → a.1 ≡ b.1 → a.0 <ℤ b.0 → cell_cmp a b ≡ Less
less_beside a b same west =
    let equal : Equal ≡ int_cmp a.1 b.1 = int_cmp_is a.1 b.1 Equal same in
    let less : Less ≡ int_cmp a.0 b.0 = int_cmp_is a.0 b.0 Less west in
    ap (λ r. ordering_then r (int_cmp a.0 b.0)) (sym equal) ∙ sym less

below_each : (c : Cell) (cs : List Cell) → ((d : Cell) → Has cs d → cell_cmp c d ≡ Less) → T (below_all c cs)
below_each c [] each = tt
below_each c (d ∷ ds) each =
    both_hold (is_lt (cell_cmp c d)) (below_all c ds) (subst (λ r. T (is_lt r)) (sym (each d (has_head d ds))) tt)
    (below_each c ds (λ e has. each e (has_tail d e ds has)))

-- cells in order, followed by others in order
rise_append : (xs ys : List Cell) → T (is_rising xs) → T (is_rising ys) → ((a b : Cell) → Has xs a → Has ys b → cell_cmp a b ≡ Less) → T (is_rising (xs ++ ys))
rise_append [] ys one other before = other
rise_append (x ∷ xs) ys one other before =
    let parts = sizes.both_hold (below_all x xs) (is_rising xs) one in
    both_hold (below_all x (xs ++ ys)) (is_rising (xs ++ ys))
    (below_each x (xs ++ ys) (λ b has. ⊎_elim (λ front. below_has x xs parts.0 b front) (λ back. before x b (has_head x xs) back) (has_parts b xs ys has)))
    (rise_append xs ys parts.1 other (λ a b in_xs in_ys. before a b (has_tail x a xs in_xs) in_ys))

has_turned : (q : Cell) (cs : List Cell) → Has (reverse cs) q → Has cs q
unfolding Has
has_turned q cs has = sym (list_any-reverse (same_cell q) cs) ∙ has

one_rises : (c : Cell) → T (is_rising (c ∷ []))
one_rises c = tt

rise_row : (left y : ℤ) (word n : ℕ) → T (is_rising (reverse (row_cells left y word n)))
unfolding row_cells
rise_row left y word zero = tt
rise_row left y word (suc n) =
    let row : List Cell = row_cells left y word n in
    let cell : Cell = (left +ℤ pos n, y) in
    elim (bit_at word n == 1) as (λ b. T (is_rising (reverse (cond b ((left +ℤ pos n, y) ∷ row_cells left y word n) (row_cells left y word n))))) [
      | true ↦ subst (λ (cs : List Cell). T (is_rising cs)) (sym (reverse-append (cell ∷ []) row))
          (rise_append (reverse row) (cell ∷ []) (rise_row left y word n) (one_rises cell)
          (λ a b in_row last.
          let r : RowHas left y word n a = row_has left y word n a (has_turned a row in_row) in
          let b_is : b ≡ cell = ⊎_elim (λ is. is) (λ none. absurd (has_none b none)) (has_cases cell b [] last) in
          let inside : r.j < n = r.inside in
          let a_x : a.0 ≡ (left +ℤ pos r.j) = ap (λ (c : Cell). c.0) r.is in
          let a_y : a.1 ≡ y = ap (λ (c : Cell). c.1) r.is in
          let b_x : b.0 ≡ (left +ℤ pos n) = ap (λ (c : Cell). c.0) b_is in
          let b_y : b.1 ≡ y = ap (λ (c : Cell). c.1) b_is in
          less_beside a b (a_y ∙ sym b_y) (omega (arith, ints))))
      | false ↦ rise_row left y word n
    ]

pub rise_block : (left top : ℤ) (rows : List ℕ) (n : ℕ) → T (is_rising (reverse (block_cells left top rows n)))
unfolding block_cells
rise_block left top rows zero = tt
rise_block left top rows (suc n) =
    let row : List Cell = row_cells left (top +ℤ pos n) (slice_index rows n) 64 in
    let rest : List Cell = block_cells left top rows n in
    subst (λ (cs : List Cell). T (is_rising cs)) (sym (reverse-append row rest))
    (rise_append (reverse rest) (reverse row) (rise_block left top rows n) (rise_row left (top +ℤ pos n) (slice_index rows n) 64)
    (λ a b in_rest in_row.
    let r : RowHas left (top +ℤ pos n) (slice_index rows n) 64 b = row_has left (top +ℤ pos n) (slice_index rows n) 64 b (has_turned b row in_row) in
    let s : BlockHas left top rows n a = block_has left top rows n a (has_turned a rest in_rest) in
    let inside : s.i < n = s.inside in
    let a_y : a.1 ≡ (top +ℤ pos s.i) = ap (λ (c : Cell). c.1) s.row.is in
    let b_y : b.1 ≡ (top +ℤ pos n) = ap (λ (c : Cell). c.1) r.is in
    less_below a b (omega (arith, ints))))

pub from_turned : (left top : ℤ) (tile : Tile) → from_list (reverse (block_cells left top tile.rows 64)) ≡ shown left top tile
unfolding shown
from_turned left top tile =
    same_members (from_list (reverse (block_cells left top tile.rows 64))) (from_list (block_cells left top tile.rows 64))
    (λ q.
    contains-from_list (reverse (block_cells left top tile.rows 64)) q
    ∙ list_any-reverse (same_cell q) (block_cells left top tile.rows 64)
    ∙ sym (contains-from_list (block_cells left top tile.rows 64) q))

-- one more row of the list
pub row_listed : (left top : ℤ) (rows : List ℕ) (n : ℕ) (items new : List Cell) → items ≡ reverse (block_cells left top rows n) →
    new ≡ items ++ reverse (row_cells left (top +ℤ pos n) (slice_index rows n) 64) → new ≡ reverse (block_cells left top rows (suc n))
unfolding block_cells
row_listed left top rows n items new before after =
    after
    ∙ ap (λ (cs : List Cell). cs ++ reverse (row_cells left (top +ℤ pos n) (slice_index rows n) 64)) before
    ∙ sym (reverse-append (row_cells left (top +ℤ pos n) (slice_index rows n) 64) (block_cells left top rows n))

pub none_listed : (left top : ℤ) (rows : List ℕ) (first : ℕ) → ((k : ℕ) → k < first → slice_index rows k ≡ 0) → [] ≡ reverse (block_cells left top rows first)
none_listed left top rows first void = sym (ap (λ (cs : List Cell). reverse cs) (block_empty left top rows first void))

pub places : (left top : ℤ) (tile : Tile) (age : ℕ) → age ≤ age_limit → ((q : Cell) → contains (shown left top tile) q ≡ true → IsWithin age q) →
    All IsPlace (reverse (block_cells left top tile.rows 64))
places left top tile age young within =
    all_listed IsPlace (shown left top tile) (reverse (block_cells left top tile.rows 64))
    (λ q. ap (λ (G : Generation). contains G q) (sym (from_turned left top tile)) ∙ contains-from_list (reverse (block_cells left top tile.rows 64)) q)
    (λ q live. place_from_within age q young (within q live))

-- all rows that have live cells are listed
pub all_rows : (left top : ℤ) (rows : List ℕ) (first end n : ℕ) (items : List Cell) → IsVoidOutside rows first end → n ≤ end → end ≤ n →
    items ≡ reverse (block_cells left top rows n) → items ≡ reverse (block_cells left top rows 64)
all_rows left top rows first end n items void few all is =
    let inside = void.inside in
    let sum : (64 - n) + n ≡ 64 = omega arith in
    is ∙ sym (ap (λ (cs : List Cell). reverse cs) (block_short left top rows n (64 - n) 64 sum (λ k past small. void.below k (omega arith) small)))
