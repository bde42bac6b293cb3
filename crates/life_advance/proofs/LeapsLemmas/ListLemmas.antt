-- The cells of squares in lists.
use Rattle.std.proofs.Common.{◌≡◌, ℕ, suc, ℤ, pos, ◌+ℤ◌, ◌+◌, ◌^◌, ◌<◌, ◌≤◌, ⊎_elim, Bool, true, false, ◌||◌, List, ◌++◌, reverse, slice_index, sym, refl, subst, ap, ◌∙◌, arith, add-one}
use Rattle.std.specs.Int.{bit_at}
use Rattle.std.specs.List.{list_any}
use Rattle.std.specs.Cmp.{both_ways}
use Rattle.std.proofs.lemmas.List.Folds.{list_any-append}
use Rattle.std.proofs.lemmas.Nat.Bits.{bit_at_above}
use Rattle.std.proofs.lemmas.Int.{ints}
use Rattle.std.proofs.Math.Bool.{or-false}
use Rattle.life_model.proofs.Cells.{pair}
use Rattle.life_slots.specs.declared.leaf.Leaf.{Leaf}
use Rattle.life_model.specs.Cell.{Cell, same_cell}
use Rattle.life_model.specs.Generation.{contains, from_list, empty}
use Rattle.life_model.proofs.Generations.{contains-empty}
use Rattle.life_model.proofs.Tests.{list_any-reverse}
use Rattle.life_slots.specs.Cells.{row_cells}
use Rattle.life_slots.proofs.Members.{RowHas, row_has, row_in}
use Rattle.life_slots.proofs.Orders.{true_or_false}
use Rattle.life_advance.specs.Leaps.Places.{empty_at}
use Rattle.life_advance.specs.Leaps.Squares.{View, beyond, width, IsAt, IsKept}
use Rattle.life_advance.specs.Leaps.Cells.{cells_of, rows_cells, IsInside, IsListed}
use Rattle.life_advance.proofs.LeapsLemmas.Growth.{either}
use Rattle.life_advance.proofs.LeapsLemmas.CellLemmas.{cells_inside, from_has, one, shows_cells, shows_none}
use Rattle.life_advance.proofs.LeapsLemmas.BuildLemmas.{has_listed, listed_has}

-- a row of 32 bits has no cell beyond them
row_short : (left y : ℤ) (word : ℕ) → word < 2 ^ 32 → (q : Cell) → list_any (same_cell q) (row_cells left y word 64) ≡ list_any (same_cell q) (row_cells left y word 32)
row_short left y word fits q = both_ways _ _ there back
  where
    there : list_any (same_cell q) (row_cells left y word 64) ≡ true → list_any (same_cell q) (row_cells left y word 32) ≡ true
    there live =
        let r : RowHas left y word 64 q = row_has left y word 64 q (listed_has _ q live) in
        let inside : r.j < 32 =
        ⊎_elim (λ (h : r.j < 32). h)
        (λ (h : 32 ≤ r.j). let none : bit_at word r.j ≡ 0 = bit_at_above word 32 r.j fits h in let set : bit_at word r.j ≡ 1 = r.set_bit in absurd (omega arith))
        (either r.j 32) in
        let P : Cell → Type 0 = λ c. IsListed (row_cells left y word 32) c in
        subst P (sym r.is) (has_listed _ _ (row_in left y word 32 r.j inside r.set_bit))

    back : list_any (same_cell q) (row_cells left y word 32) ≡ true → list_any (same_cell q) (row_cells left y word 64) ≡ true
    back live =
        let r : RowHas left y word 32 q = row_has left y word 32 q (listed_has _ q live) in
        let below : r.j < 32 = r.inside in
        let P : Cell → Type 0 = λ c. IsListed (row_cells left y word 64) c in
        subst P (sym r.is) (has_listed _ _ (row_in left y word 64 r.j (omega arith) r.set_bit))

turned : (a b c : Bool) → ((a || b) || c) ≡ (a || (c || b))
turned true b c = refl
turned false true true = refl
turned false true false = refl
turned false false true = refl
turned false false false = refl

-- one row more
pub row_pushed : (first old new : List Cell) (left top : ℤ) (rows : List ℕ) (y word : ℕ) → word ≡ slice_index rows y → word < 2 ^ 32 →
    new ≡ old ++ reverse (row_cells left (top +ℤ pos y) word 64) →
    ((q : Cell) → list_any (same_cell q) old ≡ (list_any (same_cell q) first || list_any (same_cell q) (rows_cells left top rows y))) →
    (q : Cell) → list_any (same_cell q) new ≡ (list_any (same_cell q) first || list_any (same_cell q) (rows_cells left top rows (y + 1)))
unfolding rows_cells
row_pushed first old new left top rows y word is fits pushed before q =
    ap (list_any (same_cell q)) pushed
    ∙ list_any-append (same_cell q) old (reverse (row_cells left (top +ℤ pos y) word 64))
    ∙ (λ i. before q i || (list_any-reverse (same_cell q) (row_cells left (top +ℤ pos y) word 64) ∙ row_short left (top +ℤ pos y) word fits q) i)
    ∙ turned (list_any (same_cell q) first) (list_any (same_cell q) (rows_cells left top rows y)) (list_any (same_cell q) (row_cells left (top +ℤ pos y) word 32))
    ∙ ap (λ b. list_any (same_cell q) first || b) (sym (list_any-append (same_cell q) (row_cells left (top +ℤ pos y) word 32) (rows_cells left top rows y)))
    ∙ ap (λ w. list_any (same_cell q) first || list_any (same_cell q) (row_cells left (top +ℤ pos y) w 32 ++ rows_cells left top rows y)) is
    ∙ ap (λ k. list_any (same_cell q) first || list_any (same_cell q) (rows_cells left top rows k)) (sym (add-one y))

pub rows_none : (first : List Cell) (left top : ℤ) (rows : List ℕ) (q : Cell) → list_any (same_cell q) first ≡ (list_any (same_cell q) first || list_any (same_cell q) (rows_cells left top rows 0))
unfolding rows_cells
rows_none first left top rows q = sym (or-false (list_any (same_cell q) first))

-- the empty squares have no cell
pub none_listed : (v : View) → IsKept v → (n : ℕ) → n ≤ 21 → (p q : Cell) → list_any (same_cell q) (cells_of v n (empty_at n) p) ≡ false
none_listed v kept n few p q =
    ⊎_elim
    (λ (live : list_any (same_cell q) (cells_of v n (empty_at n) p) ≡ true).
    let cs : List Cell = cells_of v n (empty_at n) p in
    let inside : IsInside n p q = cells_inside v n (empty_at n) p q (listed_has _ q live) in
    let here : contains (from_list (cells_of v n (empty_at n) p)) q ≡ true = from_has _ q (listed_has _ q live) in
    let same : contains empty q ≡ contains (from_list (cells_of v n (empty_at n) p)) q =
    one v n (empty_at n) empty (from_list (cells_of v n (empty_at n) p)) p (shows_none v kept n few empty p (λ c h. contains-empty c)) (shows_cells v n (empty_at n) p) q inside in
    let never : false ≡ true = sym (contains-empty q) ∙ same ∙ here in
    absurd cc)
    (λ (dead : list_any (same_cell q) (cells_of v n (empty_at n) p) ≡ false). dead)
    (true_or_false (list_any (same_cell q) (cells_of v n (empty_at n) p)))

-- an empty square adds none
pub none_added : (v : View) → IsKept v → (n i : ℕ) → n ≤ 21 → i ≡ empty_at n → (p : Cell) (first : List Cell) (q : Cell) →
    list_any (same_cell q) first ≡ (list_any (same_cell q) first || list_any (same_cell q) (cells_of v n i p))
none_added v kept n i few is p first q =
    sym (or-false (list_any (same_cell q) first))
    ∙ ap (λ b. list_any (same_cell q) first || b) (sym (ap (λ k. list_any (same_cell q) (cells_of v n k p)) is ∙ none_listed v kept n few p q))

or_assoc : (a b c d e : Bool) → ((((a || b) || c) || d) || e) ≡ (a || (b || (c || (d || e))))
or_assoc true b c d e = refl
or_assoc false true c d e = refl
or_assoc false false true d e = refl
or_assoc false false false d e = refl

-- the cells of four quarters
pub four_added : (v : View) (n i : ℕ) (p : Cell) (a b c d e : List Cell) (q : Cell) →
    list_any (same_cell q) b ≡ (list_any (same_cell q) a || list_any (same_cell q) (cells_of v n (v.square i).quarters.north_west p)) →
    list_any (same_cell q) c ≡ (list_any (same_cell q) b || list_any (same_cell q) (cells_of v n (v.square i).quarters.north_east (beyond p (width n) 0))) →
    list_any (same_cell q) d ≡ (list_any (same_cell q) c || list_any (same_cell q) (cells_of v n (v.square i).quarters.south_west (beyond p 0 (width n)))) →
    list_any (same_cell q) e ≡ (list_any (same_cell q) d || list_any (same_cell q) (cells_of v n (v.square i).quarters.south_east (beyond p (width n) (width n)))) →
    list_any (same_cell q) e ≡ (list_any (same_cell q) a || list_any (same_cell q) (cells_of v (suc n) i p))
unfolding cells_of
four_added v n i p a b c d e q one two three four =
    let A = cells_of v n (v.square i).quarters.north_west p in
    let B = cells_of v n (v.square i).quarters.north_east (beyond p (width n) 0) in
    let C = cells_of v n (v.square i).quarters.south_west (beyond p 0 (width n)) in
    let D = cells_of v n (v.square i).quarters.south_east (beyond p (width n) (width n)) in
    let P = list_any (same_cell q) in
    four
    ∙ (λ j. three j || list_any (same_cell q) D)
    ∙ (λ j. (two j || list_any (same_cell q) C) || list_any (same_cell q) D)
    ∙ (λ j. ((one j || list_any (same_cell q) B) || list_any (same_cell q) C) || list_any (same_cell q) D)
    ∙ or_assoc (list_any (same_cell q) a) (list_any (same_cell q) A) (list_any (same_cell q) B) (list_any (same_cell q) C) (list_any (same_cell q) D)
    ∙ ap (λ x. list_any (same_cell q) a || x)
    (sym (list_any-append (same_cell q) A (B ++ (C ++ D))
    ∙ ap (λ x. list_any (same_cell q) A || x) (list_any-append (same_cell q) B (C ++ D)
    ∙ ap (λ x. list_any (same_cell q) B || x) (list_any-append (same_cell q) C D))))

pub leaf_added : (v : View) (n i : ℕ) (leaf : Leaf) (p : Cell) → n ≡ 0 → v.leaf i ≡ leaf → (first cells : List Cell) →
    ((q : Cell) → list_any (same_cell q) cells ≡ (list_any (same_cell q) first || list_any (same_cell q) (rows_cells p.0 p.1 leaf.rows 32))) →
    (q : Cell) → list_any (same_cell q) cells ≡ (list_any (same_cell q) first || list_any (same_cell q) (cells_of v n i p))
unfolding cells_of
leaf_added v n i leaf p e is first cells pushed q =
    let P : ℕ → Type 0 = λ k. list_any (same_cell q) cells ≡ (list_any (same_cell q) first || list_any (same_cell q) (cells_of v k i p)) in
    subst P (sym e) (pushed q ∙ ap (λ l. list_any (same_cell q) first || list_any (same_cell q) (rows_cells p.0 p.1 l.rows 32)) (sym is))

-- the cells of a quarter by its place
pub quarter_added : (v : View) (n m i k : ℕ) (p q : Cell) (first cells : List Cell) → n ≡ m → i ≡ k → p ≡ q →
    ((c : Cell) → list_any (same_cell c) cells ≡ (list_any (same_cell c) first || list_any (same_cell c) (cells_of v n i p))) →
    (c : Cell) → list_any (same_cell c) cells ≡ (list_any (same_cell c) first || list_any (same_cell c) (cells_of v m k q))
quarter_added v n m i k p q first cells e f g pushed c =
    pushed c ∙ (λ j. list_any (same_cell c) first || list_any (same_cell c) (cells_of v (e j) (f j) (g j)))

pub all_added : (v : View) (n m i : ℕ) (p : Cell) (a e : List Cell) (q : Cell) → suc n ≡ m → list_any (same_cell q) e ≡ (list_any (same_cell q) a || list_any (same_cell q) (cells_of v (suc n) i p)) →
    list_any (same_cell q) e ≡ (list_any (same_cell q) a || list_any (same_cell q) (cells_of v m i p))
all_added v n m i p a e q is added = let P : ℕ → Type 0 = λ k. list_any (same_cell q) e ≡ (list_any (same_cell q) a || list_any (same_cell q) (cells_of v k i p)) in subst P is added

pub zero_beyond : (p : Cell) → beyond p 0 0 ≡ p
zero_beyond p = pair (omega (arith, ints)) (omega (arith, ints))

pub at_leaf : (v : View) (n i : ℕ) → n ≡ 0 → IsAt v n i → i < v.leaves
at_leaf v n i e h = let P : ℕ → Type 0 = λ k. IsAt v k i in subst P e h
