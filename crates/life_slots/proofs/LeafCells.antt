-- Cells of leaves in lists.
use Rattle.std.proofs.Common.{◌≡◌, ◌≢◌, ℕ, ℤ, pos, ◌+ℤ◌, ◌+◌, ◌^◌, ◌<◌, ◌≤◌, ◌⊎◌, inl, inr, ⊎_elim, Bool, true, false, ◌||◌, List, ◌++◌, length, reverse, get_or, slice_index, take, refl, sym, subst, ap, ◌∙◌, arith}
use Rattle.std.specs.List.{list_any}
use Rattle.std.proofs.lemmas.Bool.{cases_eq, cases_lt}
use Rattle.std.proofs.lemmas.List.Folds.{list_any_more}
use Rattle.std.proofs.lemmas.Nat.Bits.{bit_at_above}
use Rattle.std.proofs.Math.Bool.{or-false, or-true}
use Rattle.life_model.specs.Cell.{Cell, same_cell}
use Rattle.life_model.specs.Generation.{Generation, contains}
use Rattle.life_model.proofs.Cells.{same_cell-is}
use Rattle.life_model.proofs.Tests.{list_any-reverse}
use Rattle.life_plane.specs.Flags.{as_bit}
use Rattle.life_slots.specs.Cells.{row_cells}
use Rattle.life_slots.proofs.Members.{Has, has_back, has_front, has_parts, row_has, row_in}
use Rattle.life_slots.proofs.Orders.{true_or_false}
use Rattle.life_slots.specs.declared.leaf.Leaf.{Leaf}
use Rattle.life_slots.specs.Leaves.{ShowsLeaf}
use Rattle.life_slots.specs.Lists.{AddsCells, IsListed}

has_from : (cells : List Cell) (q : Cell) → IsListed cells q → Has cells q
unfolding Has
has_from cells q is = is

listed_from : (cells : List Cell) (q : Cell) → Has cells q → IsListed cells q
unfolding Has
listed_from cells q is = is

turned : (cells : List Cell) (q : Cell) → Has cells q → Has (reverse cells) q
unfolding Has
turned cells q is = list_any-reverse (same_cell q) cells ∙ is

turned_back : (cells : List Cell) (q : Cell) → Has (reverse cells) q → Has cells q
unfolding Has
turned_back cells q is = sym (list_any-reverse (same_cell q) cells) ∙ is

pub live_from : (b : Bool) → as_bit b ≡ 1 → b ≡ true
live_from true is = refl
live_from false is = absurd (omega arith)

module _ (leaf : Leaf) (G : Generation) (left top : ℤ) (shows : ShowsLeaf leaf G (left, top)) (n : ℕ) (row : n < 32) (fits : slice_index leaf.rows n < 2 ^ 32) where
  abbrev cells_of : List Cell
  cells_of = row_cells left (top +ℤ pos n) (slice_index leaf.rows n) 64

  row_all : (x : ℕ) → x < 32 → contains G (left +ℤ pos x, top +ℤ pos n) ≡ true → Has cells_of (left +ℤ pos x, top +ℤ pos n)
  row_all x column is = row_in left (top +ℤ pos n) (slice_index leaf.rows n) 64 x (omega arith) (shows x n column row ∙ ap as_bit is)

  row_only : (q : Cell) → Has cells_of q → contains G q ≡ true
  row_only q has =
      let r = row_has left (top +ℤ pos n) (slice_index leaf.rows n) 64 q has in
      let small : r.j < 32 =
      ⊎_elim (λ (inside : r.j < 32). inside)
      (λ (past : 32 ≤ r.j). let never : 1 ≡ 0 = sym r.set_bit ∙ bit_at_above (slice_index leaf.rows n) 32 r.j fits past in absurd (omega arith))
      (cases_lt r.j 32) in
      ap (contains G) r.is ∙ live_from (contains G (left +ℤ pos r.j, top +ℤ pos n)) (sym (shows r.j n small row) ∙ r.set_bit)

  -- one row more
  pub row_added : (old cells new : List Cell) → new ≡ cells ++ reverse cells_of → AddsCells 32 n (left, top) G old cells → AddsCells 32 (n + 1) (left, top) G old new
  row_added old cells new new_is adds =
      subst (λ (all : List Cell). AddsCells 32 (n + 1) (left, top) G old all) (sym new_is) (record {
        kept = λ q is. listed_from _ q (has_front q cells (reverse cells_of) (has_from cells q (adds.kept q is)));
        all = λ x y column high is.
            ⊎_elim
            (λ (here : y ≡ n).
            let place : (left +ℤ pos x, top +ℤ pos n) ≡ (left +ℤ pos x, top +ℤ pos y) = λ i. (left +ℤ pos x, top +ℤ pos (sym here i)) in
            subst (IsListed (cells ++ reverse cells_of)) place
            (listed_from _ _ (has_back _ cells (reverse cells_of) (turned cells_of _ (row_all x column (ap (contains G) place ∙ is))))))
            (λ (other : y ≢ n). listed_from _ _ (has_front _ cells (reverse cells_of) (has_from cells _ (adds.all x y column (omega arith) is))))
            (cases_eq y n);
        only = λ q is.
            ⊎_elim
            (λ before. adds.only q (listed_from cells q before))
            (λ added. inr (row_only q (turned_back cells_of q added)))
            (has_parts q cells (reverse cells_of) (has_from _ q is));
      })

pub none_added : (G : Generation) (place : Cell) (cells : List Cell) → AddsCells 32 0 place G cells cells
none_added G place cells = record { kept = λ q is. is; all = λ x y column row is. absurd (omega arith); only = λ q is. inl is }

-- one cell more of a list
module _ (cells : List Cell) (i : ℕ) (none : Cell) (inside : i < length cells) (q : Cell) where
  abbrev before : Bool
  before = list_any (same_cell q) (take i cells)

  more : list_any (same_cell q) (take (i + 1) cells) ≡ (before || same_cell q (get_or cells i none))
  more = list_any_more (same_cell q) cells i none inside

  pub cell_here : get_or cells i none ≡ q → list_any (same_cell q) (take (i + 1) cells) ≡ true
  cell_here same = more ∙ ap (λ (b : Bool). before || b) ((same_cell-is q (get_or cells i none)).1 (sym same)) ∙ or-true before

  pub cell_elsewhere : get_or cells i none ≢ q → list_any (same_cell q) (take (i + 1) cells) ≡ before
  cell_elsewhere other =
      let apart : same_cell q (get_or cells i none) ≡ false =
      ⊎_elim (λ (same : same_cell q (get_or cells i none) ≡ true). absurd (other (sym ((same_cell-is q (get_or cells i none)).0 same))))
      (λ (not : same_cell q (get_or cells i none) ≡ false). not)
      (true_or_false (same_cell q (get_or cells i none))) in
      more ∙ ap (λ (b : Bool). before || b) apart ∙ or-false before

-- whether two cells are one
pub one_or_other : (a b : Cell) → (a ≡ b) ⊎ (a ≢ b)
one_or_other a b =
    ⊎_elim (λ (same : same_cell a b ≡ true). inl ((same_cell-is a b).0 same))
    (λ (not : same_cell a b ≡ false). inr (λ same. let never : true ≡ false = sym ((same_cell-is a b).1 same) ∙ not in absurd cc))
    (true_or_false (same_cell a b))
