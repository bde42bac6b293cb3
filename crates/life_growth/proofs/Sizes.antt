-- How many cells the union of two sets has that share no cell.
use Rattle.std.proofs.Common.{◌≡◌, ◌≢◌, ◌+◌, ◌<◌, ◌≤◌, Bool, true, false, ◌&&◌, T, List, [], ◌∷◌, ◌++◌, length, inl, inr, sym, ap, subst, ◌∙◌, arith}
use Rattle.std.specs.List.{All}
use Rattle.std.specs.List.Sorted.{IsPermutation}
use Rattle.std.specs.Ordering.{is_lt}
use Rattle.std.specs.Cmp as cmp
use Rattle.std.proofs.lemmas.List.{length-append}
use Rattle.std.proofs.lemmas.List.Elements.{All-nil, All-cons, Contains-append_cases, Contains-append_left, Contains-append_right}
use Rattle.std.proofs.lemmas.List.Kept.{AllPairs-cons}
use Rattle.std.proofs.lemmas.List.Sorted.{length_permutation}
use Rattle.life_model.specs.Cell.{Cell, cell_cmp}
use Rattle.life_model.specs.Generation.{Generation, contains, empty, cells, size, below_all, is_rising}
use Rattle.life_model.proofs.Cells.{cell_cmp_total}
use Rattle.life_model.proofs.Generations.{cells-rise, size-cells}
use Rattle.life_model.proofs.Moves.{nothing_or_some}
use Rattle.life_model.proofs.Members.{from_cells, in_cells}
use Rattle.life_objects.specs.Apart.{AreDisjoint}
use Rattle.life_objects.specs.Union.{union}
use Rattle.life_objects.proofs.Lists.{AllDiffer, AllPairs-append, AllPairs-nil, same_elements}
use Rattle.life_objects.proofs.Unions.{in_union, in_first, in_second}

-- ---- the cells of a set, as a list

both : (a b : Bool) → T (a && b) → T a × T b
both true b h = (tt, h)
both false b h = absurd h

not_itself : (c d : Cell) → T (is_lt (cell_cmp c d)) → c ≢ d
not_itself c d h same =
    subst (λ r. T (is_lt r)) (ap (cell_cmp c) (sym same) ∙ cmp.tied_itself cell_cmp_total c) h

differ_from : (c : Cell) (cs : List Cell) → T (below_all c cs) → All (λ d. c ≢ d) cs
differ_from c [] h = All-nil (λ d. c ≢ d)
differ_from c (d ∷ ds) h =
    let parts = both (is_lt (cell_cmp c d)) (below_all c ds) h in
    All-cons (λ q. c ≢ q) d ds (not_itself c d parts.0) (differ_from c ds parts.1)

rising_differ : (cs : List Cell) → T (is_rising cs) → AllDiffer cs
rising_differ [] h = AllPairs-nil (λ c d. c ≢ d)
rising_differ (c ∷ cs) h =
    let parts = both (below_all c cs) (is_rising cs) h in
    AllPairs-cons (λ a b. a ≢ b) c cs (differ_from c cs parts.0) (rising_differ cs parts.1)

cells_differ : (G : Generation) → AllDiffer (cells G)
cells_differ G = rising_differ (cells G) (cells-rise G)

-- ---- populations

pub size-union : (P Q : Generation) → AreDisjoint P Q → size (union P Q) ≡ size P + size Q
size-union P Q disjoint =
    let order : IsPermutation (cells (union P Q)) (cells P ++ cells Q) =
    same_elements (cells (union P Q)) (cells P ++ cells Q) (cells_differ (union P Q))
    (AllPairs-append (λ c d. c ≢ d) (cells P) (cells Q) (cells_differ P) (cells_differ Q)
    (λ c d one two same. disjoint c (from_cells P c one) (ap (contains Q) same ∙ from_cells Q d two)))
    (λ c one. elim (in_union P Q c (from_cells (union P Q) c one)) [
      | inl x ↦ Contains-append_left (cells P) (cells Q) c (in_cells P c x)
      | inr y ↦ Contains-append_right (cells P) (cells Q) c (in_cells Q c y)
    ])
    (λ c one. elim (Contains-append_cases (cells P) (cells Q) c one) [
      | inl x ↦ in_cells (union P Q) c (in_first P Q c (from_cells P c x))
      | inr y ↦ in_cells (union P Q) c (in_second P Q c (from_cells Q c y))
    ]) in
    size-cells (union P Q) ∙ sym (length_permutation (cells (union P Q)) (cells P ++ cells Q) order)
    ∙ length-append (cells P) (cells Q) ∙ (λ i. sym (size-cells P) i + sym (size-cells Q) i)

pub some_size : (P : Generation) → P ≢ empty → 1 ≤ size P
some_size P some =
    elim (nothing_or_some P) [
      | inl none ↦ absurd (some none)
      | inr cell ↦
          let place = in_cells P cell.0 cell.1 in
          let h : place.0 < length (cells P) = place.1 in
          let e = size-cells P in
          omega arith
    ]
