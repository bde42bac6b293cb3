-- A cell is in the generation of a map of tiles exactly where its bit is set.
use Rattle.std.proofs.Common.{◌≡◌, ◌≢◌, ℕ, zero, suc, ℤ, pos, ◌+ℤ◌, ◌<◌, ◌==◌, ◌⊎◌, inl, inr, ⊎_elim, Bool, true, false, cond, ◌||◌, List, [], ◌∷◌, ◌++◌, Some, length, get_or, slice_index, refl, sym, subst, ap, ◌∙◌, arith, eqb-true, eq-eqb}
use Rattle.std.specs.Int.{bit_at}
use Rattle.std.specs.List.{list_any}
use Rattle.std.specs.Map.{lookup}
use Rattle.std.specs.Ordering.{is_eq}
use Rattle.std.specs.Cmp.{Equal-is, tied_itself}
use Rattle.std.proofs.lemmas.Bool.{cases_eq, or_right}
use Rattle.std.specs.BTreeMap.{is_at}
use Rattle.life_plane.specs.declared.tile.Tile.{Tile}
use Rattle.life_slots.specs.Places.{place_cmp, start_at}
use Rattle.life_model.specs.Cell.{cell_cmp, same_cell}
use Rattle.life_model.proofs.Cells.{cell_cmp_total, cell_cmp-IsAntisymmetric}
use Rattle.life_slots.specs.Cells.{row_cells, block_cells, tiles_cells}
use Rattle.life_slots.proofs.Orders.{either_true, true_or_false, place_exact}

-- the cell is in the list
unfoldable pub Has : List (ℤ × ℤ) → ℤ × ℤ → Type 0
Has cells q = list_any (same_cell q) cells ≡ true

true_left : (a b : Bool) → a ≡ true → (a || b) ≡ true
true_left a b is = ap (λ c. c || b) is

pub has_head : (q : ℤ × ℤ) (cells : List (ℤ × ℤ)) → Has (q ∷ cells) q
unfolding Has
has_head q cells = true_left _ _ (ap is_eq (tied_itself cell_cmp_total q))

pub has_tail : (p q : ℤ × ℤ) (cells : List (ℤ × ℤ)) → Has cells q → Has (p ∷ cells) q
unfolding Has
has_tail p q cells is = or_right _ _ is

pub has_cases : (p q : ℤ × ℤ) (cells : List (ℤ × ℤ)) → Has (p ∷ cells) q → (q ≡ p) ⊎ Has cells q
unfolding Has
has_cases p q cells is =
    ⊎_elim (λ first. inl (cell_cmp-IsAntisymmetric q p ((Equal-is (cell_cmp q p)).0 first))) (λ later. inr later)
    (either_true (same_cell q p) _ is)

pub has_none : (q : ℤ × ℤ) → Has [] q → ⊥
unfolding Has
has_none q is = absurd (cc)

pub has_front : (q : ℤ × ℤ) (xs ys : List (ℤ × ℤ)) → Has xs q → Has (xs ++ ys) q
has_front q [] ys is = absurd (has_none q is)
has_front q (x ∷ xs) ys is =
    ⊎_elim (λ first. subst (λ (p : ℤ × ℤ). Has (p ∷ (xs ++ ys)) q) first (has_head q (xs ++ ys))) (λ later. has_tail x q (xs ++ ys) (has_front q xs ys later)) (has_cases x q xs is)

pub has_back : (q : ℤ × ℤ) (xs ys : List (ℤ × ℤ)) → Has ys q → Has (xs ++ ys) q
has_back q [] ys is = is
has_back q (x ∷ xs) ys is = has_tail x q (xs ++ ys) (has_back q xs ys is)

pub has_parts : (q : ℤ × ℤ) (xs ys : List (ℤ × ℤ)) → Has (xs ++ ys) q → Has xs q ⊎ Has ys q
has_parts q [] ys is = inr is
has_parts q (x ∷ xs) ys is =
    ⊎_elim
    (λ first. inl (subst (λ (p : ℤ × ℤ). Has (p ∷ xs) q) first (has_head q xs)))
    (λ later. ⊎_elim (λ front. inl (has_tail x q xs front)) (λ back. inr back) (has_parts q xs ys later))
    (has_cases x q (xs ++ ys) is)

-- bit j of the word stands for the cell
pub record RowHas (left y : ℤ) (word n : ℕ) (q : ℤ × ℤ) : Type 0 where
  pub j : ℕ
  pub inside : j < n
  pub set_bit : bit_at word j ≡ 1
  pub is : q ≡ (left +ℤ pos j, y)

pub row_has : (left y : ℤ) (word n : ℕ) (q : ℤ × ℤ) → Has (row_cells left y word n) q → RowHas left y word n q
unfolding row_cells
row_has left y word zero q is = absurd (has_none q is)
row_has left y word (suc n) q is =
    let later : Has (row_cells left y word n) q → RowHas left y word (suc n) q = λ has.
    let r : RowHas left y word n q = row_has left y word n q has in
    record { j = r.j; inside = (let below = r.inside in omega arith); set_bit = r.set_bit; is = r.is } in
    ⊎_elim
    (λ (is_set : (bit_at word n == 1) ≡ true).
    let has : Has ((left +ℤ pos n, y) ∷ row_cells left y word n) q =
    subst (λ (b : Bool). Has (cond b ((left +ℤ pos n, y) ∷ row_cells left y word n) (row_cells left y word n)) q) is_set is in
    ⊎_elim
    (λ first. record { j = n; inside = omega arith; set_bit = eqb-true (bit_at word n) 1 is_set; is = first })
    later
    (has_cases (left +ℤ pos n, y) q (row_cells left y word n) has))
    (λ (clear : (bit_at word n == 1) ≡ false).
    later (subst (λ (b : Bool). Has (cond b ((left +ℤ pos n, y) ∷ row_cells left y word n) (row_cells left y word n)) q) clear is))
    (true_or_false (bit_at word n == 1))

pub row_in : (left y : ℤ) (word n j : ℕ) → j < n → bit_at word j ≡ 1 → Has (row_cells left y word n) (left +ℤ pos j, y)
unfolding row_cells
row_in left y word zero j inside is = absurd (omega arith)
row_in left y word (suc n) j inside is =
    let q : ℤ × ℤ = (left +ℤ pos j, y) in
    let more : List (ℤ × ℤ) = row_cells left y word n in
    ⊎_elim
    (λ (last : j ≡ n).
    let is_set : (bit_at word n == 1) ≡ true = eq-eqb (bit_at word n) 1 (sym (ap (bit_at word) last) ∙ is) in
    subst (λ (b : Bool). Has (cond b ((left +ℤ pos n, y) ∷ row_cells left y word n) (row_cells left y word n)) (left +ℤ pos j, y)) (sym is_set)
    (subst (λ (m : ℕ). Has ((left +ℤ pos m, y) ∷ row_cells left y word n) (left +ℤ pos j, y)) last (has_head (left +ℤ pos j, y) (row_cells left y word n))))
    (λ (other : j ≢ n).
    let before : Has (row_cells left y word n) (left +ℤ pos j, y) = row_in left y word n j (omega arith) is in
    ⊎_elim
    (λ (is_set : (bit_at word n == 1) ≡ true).
    subst (λ (b : Bool). Has (cond b ((left +ℤ pos n, y) ∷ row_cells left y word n) (row_cells left y word n)) (left +ℤ pos j, y)) (sym is_set)
    (has_tail (left +ℤ pos n, y) (left +ℤ pos j, y) (row_cells left y word n) before))
    (λ (clear : (bit_at word n == 1) ≡ false).
    subst (λ (b : Bool). Has (cond b ((left +ℤ pos n, y) ∷ row_cells left y word n) (row_cells left y word n)) (left +ℤ pos j, y)) (sym clear) before)
    (true_or_false (bit_at word n == 1)))
    (cases_eq j n)

pub record BlockHas (left top : ℤ) (rows : List ℕ) (n : ℕ) (q : ℤ × ℤ) : Type 0 where
  pub i : ℕ
  pub inside : i < n
  pub row : RowHas left (top +ℤ pos i) (slice_index rows i) 64 q

pub block_has : (left top : ℤ) (rows : List ℕ) (n : ℕ) (q : ℤ × ℤ) → Has (block_cells left top rows n) q → BlockHas left top rows n q
unfolding block_cells
block_has left top rows zero q is = absurd (has_none q is)
block_has left top rows (suc n) q is =
    ⊎_elim
    (λ here. record { i = n; inside = omega arith; row = row_has left (top +ℤ pos n) (slice_index rows n) 64 q here })
    (λ later. let b : BlockHas left top rows n q = block_has left top rows n q later in record { i = b.i; inside = (let below = b.inside in omega arith); row = b.row })
    (has_parts q (row_cells left (top +ℤ pos n) (slice_index rows n) 64) (block_cells left top rows n) is)

pub block_in : (left top : ℤ) (rows : List ℕ) (n i : ℕ) (q : ℤ × ℤ) → i < n → Has (row_cells left (top +ℤ pos i) (slice_index rows i) 64) q → Has (block_cells left top rows n) q
unfolding block_cells
block_in left top rows zero i q inside has = absurd (omega arith)
block_in left top rows (suc n) i q inside has =
    ⊎_elim
    (λ (last : i ≡ n).
    has_front q (row_cells left (top +ℤ pos n) (slice_index rows n) 64) (block_cells left top rows n)
    (subst (λ (m : ℕ). Has (row_cells left (top +ℤ pos m) (slice_index rows m) 64) q) last has))
    (λ (other : i ≢ n).
    has_back q (row_cells left (top +ℤ pos n) (slice_index rows n) 64) (block_cells left top rows n)
    (block_in left top rows n i q (omega arith) has))
    (cases_eq i n)

pub record EntryHas (es : List ((ℤ × ℤ) × Tile)) (q : ℤ × ℤ) : Type 0 where
  pub k : ℕ
  pub inside : k < length es
  pub block : (d : (ℤ × ℤ) × Tile) → BlockHas (start_at (get_or es k d).0.0) (start_at (get_or es k d).0.1) (get_or es k d).1.rows 64 q

pub tiles_has : (es : List ((ℤ × ℤ) × Tile)) (q : ℤ × ℤ) → Has (tiles_cells es) q → EntryHas es q
unfolding tiles_cells
tiles_has [] q is = absurd (has_none q is)
tiles_has (e ∷ es) q is =
    ⊎_elim
    (λ here. record { k = 0; inside = omega arith; block = λ d. block_has (start_at e.0.0) (start_at e.0.1) e.1.rows 64 q here })
    (λ later. let r : EntryHas es q = tiles_has es q later in record { k = suc r.k; inside = (let below = r.inside in omega arith); block = r.block })
    (has_parts q (block_cells (start_at e.0.0) (start_at e.0.1) e.1.rows 64) (tiles_cells es) is)

pub tiles_in : (es : List ((ℤ × ℤ) × Tile)) (p : ℤ × ℤ) (tile : Tile) (q : ℤ × ℤ) → lookup (is_at (place_cmp p)) es ≡ Some tile →
    Has (block_cells (start_at p.0) (start_at p.1) tile.rows 64) q → Has (tiles_cells es) q
unfolding tiles_cells
tiles_in [] p tile q found has = absurd (cc)
tiles_in (e ∷ es) p tile q found has =
    ⊎_elim
    (λ (here : is_at (place_cmp p) e.0 ≡ true).
    let same : p ≡ e.0 = place_exact p e.0 ((Equal-is (place_cmp p e.0)).0 here) in
    let value : Some e.1 ≡ Some tile = subst (λ (b : Bool). cond b (Some e.1) (lookup (is_at (place_cmp p)) es) ≡ Some tile) here found in
    let tile_is : tile ≡ e.1 = cc in
    has_front q (block_cells (start_at e.0.0) (start_at e.0.1) e.1.rows 64) (tiles_cells es)
    (subst (λ (t : Tile). Has (block_cells (start_at e.0.0) (start_at e.0.1) t.rows 64) q) tile_is
    (subst (λ (r : ℤ × ℤ). Has (block_cells (start_at r.0) (start_at r.1) tile.rows 64) q) same has)))
    (λ (other : is_at (place_cmp p) e.0 ≡ false).
    has_back q (block_cells (start_at e.0.0) (start_at e.0.1) e.1.rows 64) (tiles_cells es)
    (tiles_in es p tile q (subst (λ (b : Bool). cond b (Some e.1) (lookup (is_at (place_cmp p)) es) ≡ Some tile) other found) has))
    (true_or_false (is_at (place_cmp p) e.0))
