-- The cells that a square shows, and the one set that it shows and that has no others.
use Rattle.std.proofs.Common.{◌≡◌, ℕ, zero, suc, ℤ, pos, ◌+ℤ◌, ◌+◌, ◌-◌, ◌*◌, ◌<◌, ◌≤◌, ◌⊎◌, inl, inr, ⊎_elim, true, false, List, ◌++◌, slice_index, sym, refl, subst, ap, ◌∙◌, arith}
use Rattle.std.proofs.lemmas.Int.{ints}
use Rattle.std.proofs.lemmas.Nat.Bits.{bit_at-lt}
use Rattle.std.proofs.lemmas.Bool.{cases_eq}
use Rattle.std.specs.Cmp.{both_ways}
use Rattle.life_model.specs.Cell.{Cell}
use Rattle.life_model.specs.Generation.{Generation, contains, from_list}
use Rattle.life_model.proofs.Cells.{pair}
use Rattle.life_model.proofs.Generations.{contains-from_list, same_members}
use Rattle.life_plane.specs.Flags.{as_bit}
use Rattle.life_slots.specs.Cells.{row_cells}
use Rattle.life_slots.proofs.Members.{Has, has_none, has_front, has_back, has_parts, RowHas, row_has, row_in}
use Rattle.life_slots.proofs.Orders.{true_or_false}
use Rattle.life_slots.proofs.Splits.{same_flag}
use Rattle.life_slots.specs.declared.leaf.Leaf.{Leaf}
use Rattle.life_slots.specs.Leaves.{leaf_cell, ShowsLeaf}
use Rattle.life_advance.specs.declared.leaps.square.Quarters.{Quarters}
use Rattle.life_advance.specs.Leaps.Places.{empty_at}
use Rattle.life_advance.specs.Leaps.Squares.{View, half, width, beyond, Shows, ShowsQuarters, IsKept}
use Rattle.life_advance.specs.Leaps.Cells.{cells_of, rows_cells, IsInside}
use Rattle.life_advance.proofs.LeapsLemmas.Growth.{either}
use Rattle.life_advance.proofs.LeapsLemmas.RowLemmas.{half-suc, from_made}

-- ---- places in squares

pub across : (a b : Cell) → a ≡ b → a.0 ≡ b.0
across a b e = ap (λ (c : Cell). c.0) e

pub down : (a b : Cell) → a ≡ b → a.1 ≡ b.1
down a b e = ap (λ (c : Cell). c.1) e

twice : (n : ℕ) → width (suc n) ≡ 2 * width n
twice n = ap (λ k. 2 * k) (half-suc n)

-- one in a quarter is one in the square
pub inside_first : (n : ℕ) (p q : Cell) → IsInside n p q → IsInside (suc n) p q
inside_first n p q h =
    let e : width (suc n) ≡ 2 * width n = twice n in
    let wide : h.x < width n = h.wide in
    let high : h.y < width n = h.high in
    record { x = h.x; y = h.y; wide = omega arith; high = omega arith; is = h.is }

pub inside_quarter : (n : ℕ) (p q : Cell) (a b : ℕ) → a ≤ width n → b ≤ width n → IsInside n (beyond p a b) q → IsInside (suc n) p q
inside_quarter n p q a b k l h =
    let e : width (suc n) ≡ 2 * width n = twice n in
    let wide : h.x < width n = h.wide in
    let high : h.y < width n = h.high in
    record { x = a + h.x; y = b + h.y; wide = omega arith; high = omega arith; is = h.is ∙ pair (omega (arith, ints)) (omega (arith, ints)) }

-- in which quarter a cell is
pub data Quartered (n : ℕ) (p q : Cell) : Type 0 where
  In_north_west : IsInside n p q → Quartered n p q
  In_north_east : IsInside n (beyond p (width n) 0) q → Quartered n p q
  In_south_west : IsInside n (beyond p 0 (width n)) q → Quartered n p q
  In_south_east : IsInside n (beyond p (width n) (width n)) q → Quartered n p q

pub quartered : (n : ℕ) (p q : Cell) → IsInside (suc n) p q → Quartered n p q
quartered n p q h =
    let e : width (suc n) ≡ 2 * width n = twice n in
    let wide : h.x < width (suc n) = h.wide in
    let high : h.y < width (suc n) = h.high in
    ⊎_elim
    (λ (west : h.x < width n).
    ⊎_elim
    (λ (north : h.y < width n). In_north_west (record { x = h.x; y = h.y; wide = west; high = north; is = h.is }))
    (λ (south : width n ≤ h.y). In_south_west (record { x = h.x; y = h.y - width n; wide = west; high = omega arith; is = h.is ∙ pair (omega (arith, ints)) (omega (arith, ints)) }))
    (either h.y (width n)))
    (λ (east : width n ≤ h.x).
    ⊎_elim
    (λ (north : h.y < width n). In_north_east (record { x = h.x - width n; y = h.y; wide = omega arith; high = north; is = h.is ∙ pair (omega (arith, ints)) (omega (arith, ints)) }))
    (λ (south : width n ≤ h.y). In_south_east (record { x = h.x - width n; y = h.y - width n; wide = omega arith; high = omega arith; is = h.is ∙ pair (omega (arith, ints)) (omega (arith, ints)) }))
    (either h.y (width n)))
    (either h.x (width n))

-- two squares of a level that have a cell in common overlap
pub record Overlap (n a b c d : ℕ) : Type 0 where
  pub west : a < c + width n
  pub east : c < a + width n
  pub north : b < d + width n
  pub south : d < b + width n

pub overlap : (n : ℕ) (p q : Cell) (a b c d : ℕ) → IsInside n (beyond p a b) q → IsInside n (beyond p c d) q → Overlap n a b c d
overlap n p q a b c d h k =
    let h_wide : h.x < width n = h.wide in
    let h_high : h.y < width n = h.high in
    let k_wide : k.x < width n = k.wide in
    let k_high : k.y < width n = k.high in
    let e : beyond (beyond p a b) h.x h.y ≡ beyond (beyond p c d) k.x k.y = sym h.is ∙ k.is in
    let x : ((p.0 +ℤ pos a) +ℤ pos h.x) ≡ ((p.0 +ℤ pos c) +ℤ pos k.x) = ap (λ (r : Cell). r.0) e in
    let y : ((p.1 +ℤ pos b) +ℤ pos h.y) ≡ ((p.1 +ℤ pos d) +ℤ pos k.y) = ap (λ (r : Cell). r.1) e in
    let x_is : a + h.x ≡ c + k.x = omega (arith, ints) in
    let y_is : b + h.y ≡ d + k.y = omega (arith, ints) in
    record { west = omega arith; east = omega arith; north = omega arith; south = omega arith }

pub inside_zero : (n : ℕ) (p q : Cell) → IsInside n p q → IsInside n (beyond p 0 0) q
inside_zero n p q h = record { x = h.x; y = h.y; wide = h.wide; high = h.high; is = h.is ∙ pair (omega (arith, ints)) (omega (arith, ints)) }

positive : (n : ℕ) → 0 < half n
unfolding half
positive zero = omega arith
positive (suc n) = let h : 0 < half n = positive n in omega arith

-- ---- sets of lists

pub from_has : (cs : List Cell) (q : Cell) → Has cs q → contains (from_list cs) q ≡ true
unfolding Has
from_has cs q h = contains-from_list cs q ∙ h

pub to_has : (cs : List Cell) (q : Cell) → contains (from_list cs) q ≡ true → Has cs q
unfolding Has
to_has cs q h = sym (contains-from_list cs q) ∙ h

-- ---- the cells of rows

pub record RowsHave (left top : ℤ) (rows : List ℕ) (n : ℕ) (q : Cell) : Type 0 where
  pub y : ℕ
  pub inside : y < n
  pub row : RowHas left (top +ℤ pos y) (slice_index rows y) 32 q

pub rows_have : (left top : ℤ) (rows : List ℕ) (n : ℕ) (q : Cell) → Has (rows_cells left top rows n) q → RowsHave left top rows n q
unfolding rows_cells
rows_have left top rows zero q is = absurd (has_none q is)
rows_have left top rows (suc n) q is =
    ⊎_elim
    (λ here. record { y = n; inside = omega arith; row = row_has left (top +ℤ pos n) (slice_index rows n) 32 q here })
    (λ later. let b : RowsHave left top rows n q = rows_have left top rows n q later in record { y = b.y; inside = (let below = b.inside in omega arith); row = b.row })
    (has_parts q (row_cells left (top +ℤ pos n) (slice_index rows n) 32) (rows_cells left top rows n) is)

pub rows_in : (left top : ℤ) (rows : List ℕ) (n y : ℕ) (q : Cell) → y < n → Has (row_cells left (top +ℤ pos y) (slice_index rows y) 32) q → Has (rows_cells left top rows n) q
unfolding rows_cells
rows_in left top rows zero y q inside has = absurd (omega arith)
rows_in left top rows (suc n) y q inside has =
    ⊎_elim
    (λ (last : y ≡ n).
    has_front q (row_cells left (top +ℤ pos n) (slice_index rows n) 32) (rows_cells left top rows n)
    (subst (λ (m : ℕ). Has (row_cells left (top +ℤ pos m) (slice_index rows m) 32) q) last has))
    (λ (other : y ≡ n → ⊥).
    has_back q (row_cells left (top +ℤ pos n) (slice_index rows n) 32) (rows_cells left top rows n)
    (rows_in left top rows n y q (omega arith) has))
    (cases_eq y n)

-- ---- what squares show

-- sets with the same cells in a square are shown by the same squares
pub agree : (v : View) (n i : ℕ) (G H : Generation) (p : Cell) → ((q : Cell) → IsInside n p q → contains G q ≡ contains H q) → Shows v n i G p → Shows v n i H p
unfolding Shows half
agree v zero i G H p same s = λ x y wide high. s x y wide high ∙ ap as_bit (same _ (record { x = x; y = y; wide = wide; high = high; is = refl }))
agree v (suc n) i G H p same s = record {
  north_west = agree v n _ G H _ (λ q h. same q (inside_first n p q h)) s.north_west;
  north_east = agree v n _ G H _ (λ q h. same q (inside_quarter n p q (width n) 0 (omega arith) (omega arith) h)) s.north_east;
  south_west = agree v n _ G H _ (λ q h. same q (inside_quarter n p q 0 (width n) (omega arith) (omega arith) h)) s.south_west;
  south_east = agree v n _ G H _ (λ q h. same q (inside_quarter n p q (width n) (width n) (omega arith) (omega arith) h)) s.south_east;
}

-- sets that a square shows have the same cells in it
pub one : (v : View) (n i : ℕ) (G H : Generation) (p : Cell) → Shows v n i G p → Shows v n i H p → (q : Cell) → IsInside n p q → contains G q ≡ contains H q
unfolding Shows half
one v zero i G H p s t q h =
    ap (contains G) h.is ∙ same_flag _ _ (sym (s h.x h.y h.wide h.high) ∙ t h.x h.y h.wide h.high) ∙ sym (ap (contains H) h.is)
one v (suc n) i G H p s t q h =
    elim (quartered n p q h) [
      | In_north_west k ↦ one v n _ G H _ s.north_west t.north_west q k
      | In_north_east k ↦ one v n _ G H _ s.north_east t.north_east q k
      | In_south_west k ↦ one v n _ G H _ s.south_west t.south_west q k
      | In_south_east k ↦ one v n _ G H _ s.south_east t.south_east q k
    ]

pub cells_inside : (v : View) (n i : ℕ) (p q : Cell) → Has (cells_of v n i p) q → IsInside n p q
unfolding cells_of half
cells_inside v zero i p q h =
    let b : RowsHave p.0 p.1 (v.leaf i).rows 32 q = rows_have p.0 p.1 (v.leaf i).rows 32 q h in
    record { x = b.row.j; y = b.y; wide = b.row.inside; high = b.inside; is = b.row.is }
cells_inside v (suc n) i p q h =
    let a : List Cell = cells_of v n (v.square i).quarters.north_west p in
    let b : List Cell = cells_of v n (v.square i).quarters.north_east (beyond p (width n) 0) in
    let c : List Cell = cells_of v n (v.square i).quarters.south_west (beyond p 0 (width n)) in
    let d : List Cell = cells_of v n (v.square i).quarters.south_east (beyond p (width n) (width n)) in
    ⊎_elim
    (λ (x : Has (cells_of v n (v.square i).quarters.north_west p) q). inside_first n p q (cells_inside v n (v.square i).quarters.north_west p q x))
    (λ (more : Has (b ++ (c ++ d)) q). ⊎_elim
    (λ (x : Has (cells_of v n (v.square i).quarters.north_east (beyond p (width n) 0)) q).
    inside_quarter n p q (width n) 0 (omega arith) (omega arith) (cells_inside v n (v.square i).quarters.north_east (beyond p (width n) 0) q x))
    (λ (rest : Has (c ++ d) q). ⊎_elim
    (λ (x : Has (cells_of v n (v.square i).quarters.south_west (beyond p 0 (width n))) q).
    inside_quarter n p q 0 (width n) (omega arith) (omega arith) (cells_inside v n (v.square i).quarters.south_west (beyond p 0 (width n)) q x))
    (λ (x : Has (cells_of v n (v.square i).quarters.south_east (beyond p (width n) (width n))) q).
    inside_quarter n p q (width n) (width n) (omega arith) (omega arith) (cells_inside v n (v.square i).quarters.south_east (beyond p (width n) (width n)) q x))
    (has_parts q c d rest))
    (has_parts q b (c ++ d) more))
    (has_parts q a (b ++ (c ++ d)) h)

-- the cells of a leaf make a set that it shows
leaf_state : (leaf : Leaf) (p : Cell) → ShowsLeaf leaf (from_list (rows_cells p.0 p.1 leaf.rows 32)) p
leaf_state leaf p = λ x y wide high.
    let q : Cell = beyond p x y in
    let G : Generation = from_list (rows_cells p.0 p.1 leaf.rows 32) in
    ⊎_elim
    (λ (set : leaf_cell leaf x y ≡ 1).
    set ∙ sym (ap as_bit (from_has (rows_cells p.0 p.1 leaf.rows 32) q (rows_in p.0 p.1 leaf.rows 32 y q high (row_in p.0 (p.1 +ℤ pos y) (slice_index leaf.rows y) 32 x wide set)))))
    (λ (clear : leaf_cell leaf x y ≡ 0).
    ⊎_elim
    (λ (live : contains G q ≡ true).
    let b : RowsHave p.0 p.1 leaf.rows 32 q = rows_have p.0 p.1 leaf.rows 32 q (to_has _ q live) in
    let a : (p.0 +ℤ pos x) ≡ (p.0 +ℤ pos b.row.j) = ap (λ (c : Cell). c.0) b.row.is in
    let d : (p.1 +ℤ pos y) ≡ (p.1 +ℤ pos b.y) = ap (λ (c : Cell). c.1) b.row.is in
    let x_is : x ≡ b.row.j = omega (arith, ints) in
    let y_is : y ≡ b.y = omega (arith, ints) in
    let one : leaf_cell leaf x y ≡ 1 = (λ i. leaf_cell leaf (x_is i) (y_is i)) ∙ b.row.set_bit in
    let never : 1 ≡ 0 = sym one ∙ clear in
    absurd (omega arith))
    (λ (dead : contains G q ≡ false). clear ∙ sym (ap as_bit dead))
    (true_or_false (contains G q)))
    (bit_cases (leaf_cell leaf x y) (bit_at-lt (slice_index leaf.rows y) x))
  where
    bit_cases : (b : ℕ) → b < 2 → (b ≡ 1) ⊎ (b ≡ 0)
    bit_cases zero h = inr refl
    bit_cases (suc zero) h = inl refl
    bit_cases (suc (suc b)) h = absurd (omega arith)

-- of the cells of four quarters those in one of them are its own
same_part : (part all : List Cell) (q : Cell) → (Has part q → Has all q) → (Has all q → Has part q) → contains (from_list part) q ≡ contains (from_list all) q
same_part part all q there back =
    both_ways _ _ (λ h. from_has all q (there (to_has part q h))) (λ h. from_has part q (back (to_has all q h)))

-- a square shows the set of its cells
pub shows_cells : (v : View) (n i : ℕ) (p : Cell) → Shows v n i (from_list (cells_of v n i p)) p
unfolding Shows cells_of
shows_cells v zero i p = leaf_state (v.leaf i) p
shows_cells v (suc n) i p =
    let a : List Cell = cells_of v n (v.square i).quarters.north_west p in
    let b : List Cell = cells_of v n (v.square i).quarters.north_east (beyond p (width n) 0) in
    let c : List Cell = cells_of v n (v.square i).quarters.south_west (beyond p 0 (width n)) in
    let d : List Cell = cells_of v n (v.square i).quarters.south_east (beyond p (width n) (width n)) in
    let in_a : (q : Cell) → Has (cells_of v n (v.square i).quarters.north_west p) q → IsInside n (beyond p 0 0) q = λ q h. inside_zero n p q (cells_inside v n _ _ q h) in
    record {
      north_west = agree v n _ _ _ p (λ q h. same_part a (a ++ (b ++ (c ++ d))) q (has_front q a _)
          (λ all. ⊎_elim (λ x. x) (λ x. ⊎_elim
          (λ y. absurd (no_overlap n p q _ _ _ _ (inside_zero n p q h) (cells_inside v n (v.square i).quarters.north_east (beyond p (width n) 0) q y) (inl (omega arith))))
          (λ y. ⊎_elim
          (λ z. absurd (no_overlap n p q _ _ _ _ (inside_zero n p q h) (cells_inside v n (v.square i).quarters.south_west (beyond p 0 (width n)) q z) (inr (omega arith))))
          (λ z. absurd (no_overlap n p q _ _ _ _ (inside_zero n p q h) (cells_inside v n (v.square i).quarters.south_east (beyond p (width n) (width n)) q z) (inl (omega arith))))
          (has_parts q c d y)) (has_parts q b _ x)) (has_parts q a _ all))) (shows_cells v n _ p);
      north_east = agree v n _ _ _ _ (λ q h. same_part b (a ++ (b ++ (c ++ d))) q (λ x. has_back q a _ (has_front q b _ x))
          (λ all. ⊎_elim
          (λ x. absurd (no_overlap n p q _ _ _ _ (in_a q x) h (inl (omega arith))))
          (λ x. ⊎_elim (λ y. y)
          (λ y. ⊎_elim
          (λ z. absurd (no_overlap n p q _ _ _ _ (cells_inside v n (v.square i).quarters.south_west (beyond p 0 (width n)) q z) h (inl (omega arith))))
          (λ z. absurd (no_overlap n p q _ _ _ _ h (cells_inside v n (v.square i).quarters.south_east (beyond p (width n) (width n)) q z) (inr (omega arith))))
          (has_parts q c d y)) (has_parts q b _ x)) (has_parts q a _ all))) (shows_cells v n _ _);
      south_west = agree v n _ _ _ _ (λ q h. same_part c (a ++ (b ++ (c ++ d))) q (λ x. has_back q a _ (has_back q b _ (has_front q c _ x)))
          (λ all. ⊎_elim
          (λ x. absurd (no_overlap n p q _ _ _ _ (in_a q x) h (inr (omega arith))))
          (λ x. ⊎_elim
          (λ y. absurd (no_overlap n p q _ _ _ _ h (cells_inside v n (v.square i).quarters.north_east (beyond p (width n) 0) q y) (inl (omega arith))))
          (λ y. ⊎_elim (λ z. z)
          (λ z. absurd (no_overlap n p q _ _ _ _ h (cells_inside v n (v.square i).quarters.south_east (beyond p (width n) (width n)) q z) (inl (omega arith))))
          (has_parts q c d y)) (has_parts q b _ x)) (has_parts q a _ all))) (shows_cells v n _ _);
      south_east = agree v n _ _ _ _ (λ q h. same_part d (a ++ (b ++ (c ++ d))) q (λ x. has_back q a _ (has_back q b _ (has_back q c _ x)))
          (λ all. ⊎_elim
          (λ x. absurd (no_overlap n p q _ _ _ _ (in_a q x) h (inl (omega arith))))
          (λ x. ⊎_elim
          (λ y. absurd (no_overlap n p q _ _ _ _ (cells_inside v n (v.square i).quarters.north_east (beyond p (width n) 0) q y) h (inr (omega arith))))
          (λ y. ⊎_elim
          (λ z. absurd (no_overlap n p q _ _ _ _ (cells_inside v n (v.square i).quarters.south_west (beyond p 0 (width n)) q z) h (inl (omega arith))))
          (λ z. z)
          (has_parts q c d y)) (has_parts q b _ x)) (has_parts q a _ all))) (shows_cells v n _ _);
    }
  where
    no_overlap : (n : ℕ) (p q : Cell) (a b c d : ℕ) → IsInside n (beyond p a b) q → IsInside n (beyond p c d) q → (a + width n ≤ c) ⊎ (b + width n ≤ d) → ⊥
    no_overlap n p q a b c d h k far =
        let o : Overlap n a b c d = overlap n p q a b c d h k in
        let east : c < a + width n = o.east in
        let south : d < b + width n = o.south in
        ⊎_elim (λ (f : a + width n ≤ c). omega arith) (λ (f : b + width n ≤ d). omega arith) far

-- the set that a square shows, and that has no cell outside it
pub known : (v : View) (n i : ℕ) (G : Generation) (p : Cell) → Shows v n i G p → ((q : Cell) → contains G q ≡ true → IsInside n p q) → G ≡ from_list (cells_of v n i p)
known v n i G p s inside =
    same_members G (from_list (cells_of v n i p)) (λ q.
    ⊎_elim
    (λ (live : contains G q ≡ true). one v n i _ _ p s (shows_cells v n i p) q (inside q live))
    (λ (dead : contains G q ≡ false).
    ⊎_elim
    (λ (other : contains (from_list (cells_of v n i p)) q ≡ true).
    one v n i _ _ p s (shows_cells v n i p) q (cells_inside v n i p q (to_has _ q other)))
    (λ (none : contains (from_list (cells_of v n i p)) q ≡ false). dead ∙ sym none)
    (true_or_false (contains (from_list (cells_of v n i p)) q)))
    (true_or_false (contains G q)))

-- the empty squares
pub shows_none : (v : View) → IsKept v → (n : ℕ) → n ≤ 21 → (G : Generation) (p : Cell) → ((q : Cell) → IsInside n p q → contains G q ≡ false) → Shows v n (empty_at n) G p
unfolding Shows half
shows_none v kept zero h G p none = λ x y wide high. kept.leaf x y ∙ sym (ap as_bit (none _ (record { x = x; y = y; wide = wide; high = high; is = refl })))
shows_none v kept (suc n) h G p none =
    let less : n < 21 = omega arith in
    let at : empty_at (suc n) ≡ n = omega arith in
    let sub : (q : Cell) (a b : ℕ) → a ≤ width n → b ≤ width n → IsInside n (beyond p a b) q → contains G q ≡ false = λ q a b k l i. none q (inside_quarter n p q a b k l i) in
    let e : Quarters = record { north_west = empty_at n; north_east = empty_at n; south_west = empty_at n; south_east = empty_at n } in
    let four : ShowsQuarters v n e G p = record {
      north_west = shows_none v kept n (omega arith) G _ (λ q i. none q (inside_first n p q i));
      north_east = shows_none v kept n (omega arith) G _ (λ q i. sub q (width n) 0 (omega arith) (omega arith) i);
      south_west = shows_none v kept n (omega arith) G _ (λ q i. sub q 0 (width n) (omega arith) (omega arith) i);
      south_east = shows_none v kept n (omega arith) G _ (λ q i. sub q (width n) (width n) (omega arith) (omega arith) i);
    } in
    let P : ℕ → Type 0 = λ k. Shows v (suc n) k G p in
    subst P (sym at) (from_made v n n e G p (kept.none n less) four)
