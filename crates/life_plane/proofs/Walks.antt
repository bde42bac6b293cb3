-- Where a walk along a list of cells in order ends.
use Rattle.std.proofs.Common.{◌≡◌, ℕ, zero, suc, ◌-◌, ◌<◌, ◌≤◌, false, true≢false, not, T, List, [], ◌∷◌, length, Ordering, Less, Equal, Greater, get_or, ⊎_elim, sym, refl, ap, subst, ◌∙◌, arith}
use Rattle.std.specs.Ordering.{is_lt, is_eq, ordering_index, ordering_reverse}
use Rattle.std.specs.List.Sorted.{IsSorted, IsStrictlySortedBy}
use Rattle.std.proofs.lemmas.Bool.{cases_lt}
use Rattle.std.proofs.lemmas.List.Elements.{All-from_recursion}
use Rattle.std.proofs.lemmas.List.Folds.{list_any_none, list_any_at}
use Rattle.std.proofs.lemmas.List.Sorted.{searchable_from_sorted}
use Rattle.std.proofs.lemmas.List.{get_or_default}
use native.Mathlib.Numerals.{add-one}
use Rattle.life_model.specs.Cell.{Cell, cell_cmp, same_cell}
use Rattle.life_model.specs.Generation.{is_rising}
use Rattle.life_model.proofs.Cells.{cell_cmp_total}
use Rattle.life_cells.proofs.Sorted.{sorted_from_rising, less_from}
use Rattle.life_plane.specs.Field.{HasReached, IsBehind, has}

next_is_later : (cs : List Cell) → IsStrictlySortedBy cell_cmp cs → (k : ℕ) (d : Cell) → suc k < length cs → cell_cmp (get_or cs k d) (get_or cs (suc k) d) ≡ Less
unfolding IsStrictlySortedBy
next_is_later [] h k d l = absurd (omega arith)
next_is_later (c ∷ cs) h zero d l = All-from_recursion (λ y. cell_cmp c y ≡ Less) cs h.0 zero d (omega arith)
next_is_later (c ∷ cs) h (suc k) d l = next_is_later cs h.1 k d (omega arith)

-- a strict order is the order that a sort leaves
sorted_strictly : (cs : List Cell) → IsStrictlySortedBy cell_cmp cs → IsSorted cell_cmp cs
sorted_strictly cs h k d low within =
    subst (λ n. is_lt (cell_cmp (get_or cs n d) (get_or cs k d)) ≡ false) (sym (add-one k))
    (ap is_lt (cell_cmp_total.antisymm (get_or cs (suc k) d) (get_or cs k d) ∙ ap ordering_reverse (next_is_later cs h k d (omega arith))))

other_cell : (c d : Cell) (r : Ordering) → is_eq (ordering_reverse r) ≡ false → cell_cmp d c ≡ r → same_cell c d ≡ false
other_cell c d r h e = ap is_eq (cell_cmp_total.antisymm c d ∙ ap ordering_reverse e) ∙ h

least : (r : Ordering) → ordering_index r ≤ 0 → r ≡ Less
least Less h = refl
least Equal h = absurd (omega arith)
least Greater h = absurd (omega arith)

greatest : (r : Ordering) → 2 ≤ ordering_index r → r ≡ Greater
greatest Less h = absurd (omega arith)
greatest Equal h = absurd (omega arith)
greatest Greater h = refl

-- where a walk along the cells ends
module _ (cs : List Cell) (c : Cell) (i : ℕ) (h : T (is_rising cs)) (behind : IsBehind cs i c) (reached : HasReached cs i c) where
  rise : (k j : ℕ) (d : Cell) → k ≤ j → j < length cs → ordering_index (cell_cmp (get_or cs k d) c) ≤ ordering_index (cell_cmp (get_or cs j d) c)
  rise = searchable_from_sorted cell_cmp_total (λ d. d) cs c (sorted_strictly cs (sorted_from_rising cs h))

  none_before : (k : ℕ) (d : Cell) → i ≤ length cs → k < i → same_cell c (get_or cs k d) ≡ false
  none_before k d within below =
      other_cell c (get_or cs k d) Less refl
      (least _ (subst (λ n. ordering_index (cell_cmp (get_or cs k d) c) ≤ n) (ap ordering_index (less_from _ (behind (i - 1) d (omega arith)))) (rise k (i - 1) d (omega arith) (omega arith))))

  -- beyond the end
  pub walked_past : i ≡ length cs → has cs c ≡ false
  walked_past e = list_any_none (same_cell c) cs (λ k d l. none_before k d (omega (arith, e)) (omega (arith, e)))

  -- at a later cell
  walked_to_later : (d : Cell) → i < length cs → cell_cmp (get_or cs i d) c ≡ Greater → has cs c ≡ false
  walked_to_later d l later = list_any_none (same_cell c) cs (λ k e m.
      ⊎_elim
      (λ below. none_before k e (omega arith) below)
      (λ above. other_cell c (get_or cs k e) Greater refl
      (greatest _ (subst (λ n. n ≤ ordering_index (cell_cmp (get_or cs k e) c)) (ap (λ b. ordering_index (cell_cmp b c)) (get_or_default cs i e d l) ∙ ap ordering_index later) (rise i k e above m))))
      (cases_lt k i))

  pub walked_to : (d : Cell) → i < length cs → not (is_lt (cell_cmp c (get_or cs i d))) ≡ has cs c
  walked_to d l = told _ refl
    where
      back : cell_cmp (get_or cs i d) c ≡ ordering_reverse (cell_cmp c (get_or cs i d))
      back = cell_cmp_total.antisymm (get_or cs i d) c

      told : (r : Ordering) → cell_cmp c (get_or cs i d) ≡ r → not (is_lt (cell_cmp c (get_or cs i d))) ≡ has cs c
      told Less e = ap (λ r. not (is_lt r)) e ∙ sym (walked_to_later d l (back ∙ ap ordering_reverse e))
      told Equal e = ap (λ r. not (is_lt r)) e ∙ sym (list_any_at (same_cell c) cs i d l (ap is_eq e))
      told Greater e = absurd (true≢false (ap is_lt (sym (back ∙ ap ordering_reverse e)) ∙ reached d l))
