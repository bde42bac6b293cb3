-- The cells of seats, listed row by row.
use Rattle.std.proofs.Common.{◌≡◌, ℕ, zero, suc, ℤ, pos, negsuc, ◌+ℤ◌, ◌≤ℤ◌, ⊎_elim, w32, to_z, of_z, ◌+◌, ◌-◌, ◌<◌, ◌≤◌, Bool, true, false, ◌||◌, All, List, [], ◌∷◌, ◌++◌, length, reverse, take, drop, get_or, slice_index, refl, sym, subst, ap, ◌∙◌, append_assoc, append-nil, arith}
use Rattle.std.specs.Int.{bit_at}
use Rattle.std.proofs.lemmas.Nat.Bits.{bit_at-zero}
use Rattle.std.specs.List.{list_any}
use Rattle.std.proofs.lemmas.Int.{ints}
use Rattle.std.proofs.lemmas.List.{reverse-append, take_more, take-append-drop, take-take, drop-take}
use Rattle.std.proofs.lemmas.List.Elements.{All-push}
use Rattle.std.proofs.lemmas.List.Folds.{list_any-append}
use Rattle.std.proofs.Math.Bool.{or-false, or_assoc, or_comm}
use Rattle.life_model.specs.Cell.{Cell, same_cell}
use Rattle.life_model.proofs.Tests.{list_any-alike, list_any-or, list_any-reverse}
use Rattle.life_plane.specs.declared.tile.Tile.{Tile}
use Rattle.life_slots.specs.Cells.{row_cells, block_cells, tiles_cells}
use Rattle.life_slots.specs.Limits.{tile_limit}
use Rattle.life_slots.specs.Places.{start_at, IsInside}
use Rattle.life_slots.specs.Seats.{has_line, has_rows, has_tile, IsBetween}
use Rattle.life_slots.specs.Ends.{IsVoid}
use Rattle.life_slots.specs.Slots.{tile_of, placed_tiles}
use Rattle.life_slots.specs.declared.seats.Seat.{Seat}
use Rattle.life_slots.proofs.Listed.{shown_none}
use Rattle.life_slots.proofs.Members.{Has, BlockHas, block_has}
use Rattle.life_slots.proofs.Orders.{true_or_false}
use Rattle.life_slots.proofs.Pushed.{row_set, row_short, row_none, block_none, tiles_none}

-- ---- the bits of a row, from west to east

pub row_begun : (left y : ℤ) (word x : ℕ) (items : List Cell) → ((j : ℕ) → 0 ≤ j → j < x → bit_at word j ≡ 0) →
    items ≡ items ++ reverse (row_cells left y word x)
row_begun left y word x items none =
    sym (append-nil items)
    ∙ ap (λ (xs : List Cell). items ++ reverse xs) (sym (row_short left y word 0 x x (let same : x + 0 ≡ x = omega arith in same) none ∙ row_none left y word))

pub row_gone_on : (left y : ℤ) (word x next : ℕ) (start items new : List Cell) → bit_at word x ≡ 1 →
    items ≡ start ++ reverse (row_cells left y word x) → new ≡ items ++ (left +ℤ pos x, y) ∷ [] →
    x + 1 ≤ next → ((j : ℕ) → x + 1 ≤ j → j < next → bit_at word j ≡ 0) →
    new ≡ start ++ reverse (row_cells left y word next)
row_gone_on left y word x next start items new is before after more none =
    let cell : Cell = (left +ℤ pos x, y) in
    let rest : List Cell = row_cells left y word x in
    let up : suc x ≡ x + 1 = omega arith in
    let gap : (next - (x + 1)) + (x + 1) ≡ next = omega arith in
    after
    ∙ ap (λ (xs : List Cell). xs ++ cell ∷ []) before
    ∙ append_assoc start (reverse rest) (cell ∷ [])
    ∙ ap (λ (xs : List Cell). start ++ xs) (sym (reverse-append (cell ∷ []) rest))
    ∙ ap (λ (xs : List Cell). start ++ reverse xs)
    (sym (row_set left y word x is) ∙ ap (row_cells left y word) up
    ∙ sym (row_short left y word (x + 1) (next - (x + 1)) next gap none))

-- ---- seat by seat

pub all_pushed : (P : Seat → Type 0) (seats : List Seat) (seat : Seat) (new : List Seat) → new ≡ seats ++ seat ∷ [] → All P seats → P seat → All P new
all_pushed P seats seat new is all here =
    subst (λ (ss : List Seat). All P ss) (sym is) (All-push P seats seat all here)

pub seat_more : (p : Seat → Bool) (seats : List Seat) (i : ℕ) (d : Seat) → i < length seats →
    list_any p (take (i + 1) seats) ≡ (list_any p (take i seats) || p (get_or seats i d))
seat_more p seats i d inside =
    ap (list_any p) (take_more seats i d inside)
    ∙ list_any-append p (take i seats) (get_or seats i d ∷ [])
    ∙ ap (λ b. list_any p (take i seats) || b) (or-false (p (get_or seats i d)))

-- row by row
rows_step : (tiles : List Tile) (y : ℕ) (q : Cell) (seat : Seat) → has_rows tiles (suc y) q seat ≡ (has_rows tiles y q seat || has_line tiles y q seat)
unfolding block_cells
rows_step tiles y q seat =
    list_any-append (same_cell q)
    (row_cells (start_at seat.column) (start_at seat.row +ℤ pos y) (slice_index (tile_of tiles seat.slot).rows y) 64)
    (block_cells (start_at seat.column) (start_at seat.row) (tile_of tiles seat.slot).rows y)
    ∙ or_comm (has_line tiles y q seat) (has_rows tiles y q seat)

pub rows_more : (tiles : List Tile) (y : ℕ) (q : Cell) (seats : List Seat) →
    list_any (has_rows tiles (y + 1) q) seats ≡ (list_any (has_rows tiles y q) seats || list_any (has_line tiles y q) seats)
rows_more tiles y q seats =
    let up : y + 1 ≡ suc y = omega arith in
    ap (λ n. list_any (has_rows tiles n q) seats) up
    ∙ list_any-alike (has_rows tiles (suc y) q) (λ s. has_rows tiles y q s || has_line tiles y q s) (rows_step tiles y q) seats
    ∙ list_any-or (has_rows tiles y q) (has_line tiles y q) seats

no_rows : (tiles : List Tile) (q : Cell) (seat : Seat) → has_rows tiles 0 q seat ≡ false
no_rows tiles q seat = ap (list_any (same_cell q)) (block_none (start_at seat.column) (start_at seat.row) (tile_of tiles seat.slot).rows)

-- rows without a live cell add none
line_void : (tiles : List Tile) (y : ℕ) (q : Cell) (seat : Seat) → slice_index (tile_of tiles seat.slot).rows y ≡ 0 → has_line tiles y q seat ≡ false
line_void tiles y q seat void =
    let left : ℤ = start_at seat.column in
    let top : ℤ = start_at seat.row +ℤ pos y in
    ap (λ (w : ℕ). list_any (same_cell q) (row_cells left top w 64)) void
    ∙ ap (list_any (same_cell q)) (row_short left top 0 0 64 64 (let same : 64 + 0 ≡ 64 = omega arith in same) (λ j from inside. bit_at-zero j) ∙ row_none left top 0)

rows_past : (tiles : List Tile) (q : Cell) (seat : Seat) (n m : ℕ) → ((y : ℕ) → n ≤ y → y < n + m → slice_index (tile_of tiles seat.slot).rows y ≡ 0) →
    has_rows tiles (n + m) q seat ≡ has_rows tiles n q seat
rows_past tiles q seat n zero void = let same : n + 0 ≡ n = omega arith in ap (λ (k : ℕ). has_rows tiles k q seat) same
rows_past tiles q seat n (suc m) void =
    let next : n + suc m ≡ suc (n + m) = omega arith in
    ap (λ (k : ℕ). has_rows tiles k q seat) next
    ∙ rows_step tiles (n + m) q seat
    ∙ ap (λ b. has_rows tiles (n + m) q seat || b) (line_void tiles (n + m) q seat (void (n + m) (omega arith) (omega arith)))
    ∙ or-false (has_rows tiles (n + m) q seat)
    ∙ rows_past tiles q seat n m (λ y from less. void y from (omega arith))

pub rows_above : (tiles : List Tile) (q : Cell) (first end : ℕ) (seats : List Seat) → All (IsBetween tiles first end) seats →
    list_any (has_rows tiles first q) seats ≡ false
rows_above tiles q first end [] each = refl
rows_above tiles q first end (s ∷ ss) each =
    let here : IsBetween tiles first end s = each 0 s (omega arith) in
    let all : 0 + first ≡ first = omega arith in
    let none : has_rows tiles first q s ≡ false =
    ap (λ (k : ℕ). has_rows tiles k q s) (sym all) ∙ rows_past tiles q s 0 first (λ y from less. here.above y (omega arith)) ∙ no_rows tiles q s in
    ap (λ b. b || list_any (has_rows tiles first q) ss) none ∙ rows_above tiles q first end ss (λ k d below. each (suc k) d (omega arith))

pub rows_below : (tiles : List Tile) (q : Cell) (first end y : ℕ) (seats : List Seat) → end ≤ y → y ≤ 64 → All (IsBetween tiles first end) seats →
    list_any (has_rows tiles y q) seats ≡ list_any (has_tile tiles q) seats
rows_below tiles q first end y [] past small each = refl
rows_below tiles q first end y (s ∷ ss) past small each =
    let here : IsBetween tiles first end s = each 0 s (omega arith) in
    let all : y + (64 - y) ≡ 64 = omega arith in
    let same : has_rows tiles y q s ≡ has_tile tiles q s =
    sym (ap (λ (k : ℕ). has_rows tiles k q s) (sym all) ∙ rows_past tiles q s y (64 - y) (λ z from less. here.below z (omega arith) (omega arith))) in
    (λ i. same i || rows_below tiles q first end y ss past small (λ k d below. each (suc k) d (omega arith)) i)

-- one seat more whose tile's rows are between two
pub between_none : (tiles : List Tile) (first end : ℕ) (seats : List Seat) → All (IsBetween tiles first end) (take 0 seats)
between_none tiles first end seats = λ k d below. absurd (omega arith)

wider : (tiles : List Tile) (a b c d : ℕ) (seat : Seat) → c ≤ a → b ≤ d → IsBetween tiles a b seat → IsBetween tiles c d seat
wider tiles a b c d seat low high is = record {
  above = λ y less. is.above y (omega arith);
  below = λ y past small. is.below y (omega arith) small;
}

pub between_more : (tiles : List Tile) (a b c d i : ℕ) (seats : List Seat) (none : Seat) → i < length seats → c ≤ a → b ≤ d →
    All (IsBetween tiles a b) (take i seats) → IsBetween tiles c d (get_or seats i none) → All (IsBetween tiles c d) (take (i + 1) seats)
between_more tiles a b c d i seats none inside low high each here =
    all_pushed (IsBetween tiles c d) (take i seats) (get_or seats i none) (take (i + 1) seats) (take_more seats i none inside)
    (λ k e below. wider tiles a b c d _ low high (each k e below)) here

take_joined : (n m : ℕ) (xs : List Seat) → take (n + m) xs ≡ take n xs ++ take m (drop n xs)
take_joined n m xs =
    let less : n ≤ n + m = omega arith in
    sym (take-append-drop n (take (n + m) xs))
    ∙ (λ i. take-take n (n + m) xs less i ++ drop-take n m xs i)

pub seats_joined : (p : Seat → Bool) (seats : List Seat) (from to : ℕ) → from ≤ to →
    list_any p (take to seats) ≡ (list_any p (take from seats) || list_any p (take (to - from) (drop from seats)))
seats_joined p seats from to later =
    let sum : from + (to - from) ≡ to = omega arith in
    ap (λ n. list_any p (take n seats)) (sym sum)
    ∙ ap (list_any p) (take_joined from (to - from) seats)
    ∙ list_any-append p (take from seats) (take (to - from) (drop from seats))

-- ---- places in 32 bits and out of them

pub placed_left : (z at : ℤ) → negsuc tile_limit ≤ℤ z → z ≤ℤ pos tile_limit → at ≡ start_at (to_z w32 (of_z w32 z)) → to_z w32 (of_z w32 at) ≡ start_at z
placed_left z at low high is =
    let same : to_z w32 (of_z w32 z) ≡ z = omega (arith, ints) in
    let at_is : at ≡ start_at z = is ∙ ap start_at same in
    omega (arith, ints, at_is)

pub placed_top : (z at : ℤ) (y : ℕ) → negsuc tile_limit ≤ℤ z → z ≤ℤ pos tile_limit → y < 64 → at ≡ start_at (to_z w32 (of_z w32 z)) →
    to_z w32 (of_z w32 (to_z w32 (of_z w32 at) +ℤ to_z w32 y)) ≡ (start_at z +ℤ pos y)
placed_top z at y low high small is =
    let first : to_z w32 (of_z w32 at) ≡ start_at z = placed_left z at low high is in
    let cast : to_z w32 y ≡ pos y = omega (arith, ints) in
    let sum : (to_z w32 (of_z w32 at) +ℤ to_z w32 y) ≡ (start_at z +ℤ pos y) = λ i. first i +ℤ cast i in
    let back : to_z w32 (of_z w32 (start_at z +ℤ pos y)) ≡ (start_at z +ℤ pos y) = omega (arith, ints) in
    ap (λ (w : ℤ). to_z w32 (of_z w32 w)) sum ∙ back

-- a row of one seat's tile more
pub line_pushed : (tiles : List Tile) (y : ℕ) (seat : Seat) (left top : ℤ) (rows : List ℕ) (old new : List Cell) (q : Cell) →
    left ≡ start_at seat.column → top ≡ (start_at seat.row +ℤ pos y) → rows ≡ (tile_of tiles seat.slot).rows →
    new ≡ old ++ reverse (row_cells left top (slice_index rows y) 64) →
    list_any (same_cell q) new ≡ (list_any (same_cell q) old || has_line tiles y q seat)
line_pushed tiles y seat left top rows old new q left_is top_is rows_is pushed =
    ap (list_any (same_cell q)) pushed
    ∙ list_any-append (same_cell q) old (reverse (row_cells left top (slice_index rows y) 64))
    ∙ ap (λ b. list_any (same_cell q) old || b)
    (list_any-reverse (same_cell q) (row_cells left top (slice_index rows y) 64)
    ∙ (λ i. list_any (same_cell q) (row_cells (left_is i) (top_is i) (slice_index (rows_is i) y) 64)))

-- ---- the seats of an index

abbrev pub Entry : Type 0
Entry = (ℤ × ℤ) × ℕ

abbrev pub seat_of : Entry → Seat
seat_of e = record { row = e.0.1; column = e.0.0; slot = e.1 }

tiles_first : (tiles : List Tile) (q : Cell) (e : Entry) (rest : List Entry) →
    list_any (same_cell q) (tiles_cells (placed_tiles (e ∷ rest) tiles)) ≡ (has_tile tiles q (seat_of e) || list_any (same_cell q) (tiles_cells (placed_tiles rest tiles)))
unfolding tiles_cells
tiles_first tiles q e rest = list_any-append (same_cell q) (block_cells (start_at e.0.0) (start_at e.0.1) (tile_of tiles e.1).rows 64) (tiles_cells (placed_tiles rest tiles))

pub seat_taken : (tiles : List Tile) (q : Cell) (e : Entry) (all rest : List Entry) (seats new : List Seat) → all ≡ e ∷ rest → new ≡ seats ++ seat_of e ∷ [] →
    (list_any (has_tile tiles q) new || list_any (same_cell q) (tiles_cells (placed_tiles rest tiles)))
    ≡ (list_any (has_tile tiles q) seats || list_any (same_cell q) (tiles_cells (placed_tiles all tiles)))
seat_taken tiles q e all rest seats new is pushed =
    let before = list_any (has_tile tiles q) seats in
    let later = list_any (same_cell q) (tiles_cells (placed_tiles rest tiles)) in
    ap (λ (ss : List Seat). list_any (has_tile tiles q) ss || later) pushed
    ∙ ap (λ b. b || later) (list_any-append (has_tile tiles q) seats (seat_of e ∷ []) ∙ ap (λ b. before || b) (or-false (has_tile tiles q (seat_of e))))
    ∙ or_assoc before (has_tile tiles q (seat_of e)) later
    ∙ ap (λ b. before || b) (sym (tiles_first tiles q e rest) ∙ ap (λ (es : List Entry). list_any (same_cell q) (tiles_cells (placed_tiles es tiles))) (sym is))

void_has : (tile : Tile) (left top : ℤ) (q : Cell) → IsVoid tile → list_any (same_cell q) (block_cells left top tile.rows 64) ≡ false
unfolding Has
void_has tile left top q void =
    ⊎_elim
    (λ (has : list_any (same_cell q) (block_cells left top tile.rows 64) ≡ true).
    let b : BlockHas left top tile.rows 64 q = block_has left top tile.rows 64 q has in
    let never : 1 ≡ 0 = sym b.row.set_bit ∙ void.dead b.row.j b.i b.row.inside b.inside in
    absurd (omega arith))
    (λ lacks. lacks)
    (true_or_false (list_any (same_cell q) (block_cells left top tile.rows 64)))

-- one whose tile has no live cell is passed over
pub seat_void : (tiles : List Tile) (q : Cell) (e : Entry) (all rest : List Entry) (seats : List Seat) → all ≡ e ∷ rest → IsVoid (tile_of tiles e.1) →
    (list_any (has_tile tiles q) seats || list_any (same_cell q) (tiles_cells (placed_tiles rest tiles)))
    ≡ (list_any (has_tile tiles q) seats || list_any (same_cell q) (tiles_cells (placed_tiles all tiles)))
seat_void tiles q e all rest seats is void =
    let later = list_any (same_cell q) (tiles_cells (placed_tiles rest tiles)) in
    ap (λ b. list_any (has_tile tiles q) seats || b)
    (sym
    (ap (λ (es : List Entry). list_any (same_cell q) (tiles_cells (placed_tiles es tiles))) is
    ∙ tiles_first tiles q e rest
    ∙ ap (λ b. b || later) (void_has (tile_of tiles e.1) (start_at e.0.0) (start_at e.0.1) q void)))

pub no_more : (tiles : List Tile) (q : Cell) (all : List Entry) (seats : List Seat) → all ≡ [] →
    list_any (has_tile tiles q) seats ≡ (list_any (has_tile tiles q) seats || list_any (same_cell q) (tiles_cells (placed_tiles all tiles)))
no_more tiles q all seats is =
    sym (or-false (list_any (has_tile tiles q) seats))
    ∙ ap (λ b. list_any (has_tile tiles q) seats || b) (sym (ap (list_any (same_cell q)) (tiles_none (placed_tiles all tiles) (shown_none tiles all is))))

-- the seat that is pushed is the entry's, since its place fits into 32 bits
pub seat_pushed : (e : Entry) (seats new : List Seat) → IsInside e.0 →
    new ≡ seats ++ seat_of ((to_z w32 (of_z w32 e.0.0), to_z w32 (of_z w32 e.0.1)), e.1) ∷ [] → new ≡ seats ++ seat_of e ∷ []
seat_pushed e seats new inside is =
    let across : to_z w32 (of_z w32 e.0.0) ≡ e.0.0 = omega (arith, ints, inside.west, inside.east) in
    let down : to_z w32 (of_z w32 e.0.1) ≡ e.0.1 = omega (arith, ints, inside.north, inside.south) in
    is ∙ (λ i. seats ++ seat_of ((across i, down i), e.1) ∷ [])
