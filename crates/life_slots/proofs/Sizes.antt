-- The cells of tiles: no cell comes twice. What the order of cells says.
use Rattle.std.proofs.Common.{◌≡◌, ℕ, zero, suc, ℤ, pos, ◌+ℤ◌, ◌<ℤ◌, ◌<◌, ◌==◌, ◌⊎◌, inl, inr, ⊎_elim, Bool, true, false, cond, ◌&&◌, T, List, [], ◌∷◌, ◌++◌, Ordering, Less, Equal, Greater, slice_index, refl, sym, subst, ap, ◌∙◌, arith}
use Rattle.std.specs.Int.{bit_at}
use Rattle.std.specs.Ordering.{is_lt, int_cmp, ordering_then, MatchOrdering}
use Rattle.std.specs.Cmp.{int_ranks}
use Rattle.std.proofs.lemmas.Int.{ints}
use Rattle.life_model.specs.Cell.{Cell, cell_cmp}
use Rattle.life_model.specs.Generation.{Generation, contains, cells, below_all}
use Rattle.life_model.proofs.Generations.{contains-cells}
use Rattle.life_cells.proofs.Sorted.{is_less}
use Rattle.life_slots.specs.Cells.{row_cells, block_cells}
use Rattle.life_slots.proofs.Members.{Has, has_none, has_head, has_tail, has_cases, has_parts, RowHas, row_has, BlockHas, block_has}
use Rattle.life_slots.proofs.Counted.{IsFresh}

pub fresh-append : (xs ys : List Cell) → IsFresh xs → IsFresh ys → ((q : Cell) → Has xs q → Has ys q → ⊥) → IsFresh (xs ++ ys)
fresh-append [] ys one other apart = other
fresh-append (x ∷ xs) ys one other apart = (
  λ has. ⊎_elim (λ front. one.0 front) (λ back. apart x (has_head x xs) back) (has_parts x xs ys has),
  fresh-append xs ys one.1 other (λ q front back. apart q (has_tail x q xs front) back),
)

-- ---- the cells of tiles

fresh_row : (left y : ℤ) (word n : ℕ) → IsFresh (row_cells left y word n)
unfolding row_cells
fresh_row left y word zero = tt
fresh_row left y word (suc n) =
    elim (bit_at word n == 1) as (λ b. IsFresh (cond b ((left +ℤ pos n, y) ∷ row_cells left y word n) (row_cells left y word n))) [
      | true ↦ (
        λ has.
            let r : RowHas left y word n (left +ℤ pos n, y) = row_has left y word n (left +ℤ pos n, y) has in
            let inside : r.j < n = r.inside in
            let same : (left +ℤ pos n) ≡ (left +ℤ pos r.j) = ap (λ (c : Cell). c.0) r.is in
            let never : n ≡ r.j = omega (arith, ints) in
            omega arith,
        fresh_row left y word n,
      )
      | false ↦ fresh_row left y word n
    ]

pub fresh_block : (left top : ℤ) (rows : List ℕ) (n : ℕ) → IsFresh (block_cells left top rows n)
unfolding block_cells
fresh_block left top rows zero = tt
fresh_block left top rows (suc n) =
    fresh-append (row_cells left (top +ℤ pos n) (slice_index rows n) 64) (block_cells left top rows n)
    (fresh_row left (top +ℤ pos n) (slice_index rows n) 64) (fresh_block left top rows n)
    (λ q in_row in_rest.
    let r : RowHas left (top +ℤ pos n) (slice_index rows n) 64 q = row_has left (top +ℤ pos n) (slice_index rows n) 64 q in_row in
    let b : BlockHas left top rows n q = block_has left top rows n q in_rest in
    let inside : b.i < n = b.inside in
    let same : (top +ℤ pos n) ≡ (top +ℤ pos b.i) = sym (ap (λ (c : Cell). c.1) r.is) ∙ ap (λ (c : Cell). c.1) b.row.is in
    let never : n ≡ b.i = omega (arith, ints) in
    omega arith)

-- ---- cells in their order

pub lesser : (r s : Ordering) → ordering_then r s ≡ Less → (r ≡ Less) ⊎ ((r ≡ Equal) × (s ≡ Less))
lesser Less s e = inl refl
lesser Equal s e = inr (refl, e)
lesser Greater s e = absurd (cc)

pub int_less : (x y : ℤ) → int_cmp x y ≡ Less → x <ℤ y
int_less x y e = subst (λ (r : Ordering). MatchOrdering r (x <ℤ y) (x ≡ y) (y <ℤ x)) e (int_ranks x y)

pub int_same : (x y : ℤ) → int_cmp x y ≡ Equal → x ≡ y
int_same x y e = subst (λ (r : Ordering). MatchOrdering r (x <ℤ y) (x ≡ y) (y <ℤ x)) e (int_ranks x y)

pub both_hold : (a b : Bool) → T (a && b) → T a × T b
both_hold true b h = (tt, h)
both_hold false b h = absurd h

pub below_has : (c : Cell) (cs : List Cell) → T (below_all c cs) → (q : Cell) → Has cs q → cell_cmp c q ≡ Less
below_has c [] below q has = absurd (has_none q has)
below_has c (d ∷ ds) below q has =
    let parts = both_hold (is_lt (cell_cmp c d)) (below_all c ds) below in
    ⊎_elim
    (λ same. ap (cell_cmp c) same ∙ is_less (cell_cmp c d) parts.0)
    (λ later. below_has c ds parts.1 q later)
    (has_cases d q ds has)

pub member_has : (G : Generation) (q : Cell) → Has (cells G) q → contains G q ≡ true
unfolding Has
member_has G q has = contains-cells G q ∙ has
