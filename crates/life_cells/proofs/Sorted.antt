-- Lists that were sorted, without repeats.
use Rattle.std.proofs.Common.{◌≡◌, Bool, true, false, cond, ◌&&◌, ◌||◌, T, List, [], ◌∷◌, Ordering, Less, Equal, Greater, Decides, slice_index_or, sym, refl, ap, subst, ◌∙◌, arith}
use Rattle.std.specs.Prelude.{ℕ, ◌+◌, ◌<◌, IsTrue, length, ◌==◌}
use Rattle.std.specs.List as lists
use Rattle.std.specs.List.{list_any, dedup, AllByRecursion}
use Rattle.std.specs.List.Sorted.{IsStrictlySortedBy}
use Rattle.std.specs.Ordering.{is_lt}
use Rattle.std.specs.List.{All}
use Rattle.std.specs.List.Sorted.{IsSorted}
use Rattle.std.specs.List.Retain.{IsFiltered, DiffersFromLast}
use Rattle.std.proofs.lemmas.List.Filters.{dedup_is, All-dedup}
use Rattle.std.proofs.lemmas.List.Kept.{IsStrictlySortedBy-dedup}
use Rattle.std.proofs.lemmas.Map.Keys.{sorted_from_all_adjacent}
use Rattle.std.proofs.lemmas.Bool.Decides.{nat_tests, same_from_decides, Decides-like, Decides-and, Decides-int_eq}
use Rattle.life_model.proofs.Cells.{pair, cell_cmp_total, same_cell-is}
use Rattle.life_model.proofs.Generations.{same_members, cells-from_list, from_list-cells, contains-from_list}
use Rattle.life_model.proofs.Tests.{first_holds, second_holds}
use Rattle.life_model.specs.Cell.{Cell, cell_cmp, same_cell}
use Rattle.life_model.specs.Generation.{Generation, below_all, cells, empty, from_list, is_rising}
use Rattle.life_cells.specs.Alike.{same_places}

pub both_hold : (a b : Bool) → T a → T b → T (a && b)
both_hold true b h k = k
both_hold false b h k = h

below_from_all : (c : Cell) (cs : List Cell) → AllByRecursion (λ d. cell_cmp c d ≡ Less) cs → T (below_all c cs)
below_from_all c [] h = tt
below_from_all c (d ∷ ds) h = both_hold _ _ (subst (λ r. T (is_lt r)) (sym h.0) tt) (below_from_all c ds h.1)

pub rising_from_sorted : (cs : List Cell) → IsStrictlySortedBy cell_cmp cs → T (is_rising cs)
unfolding IsStrictlySortedBy
rising_from_sorted [] h = tt
rising_from_sorted (c ∷ cs) h = both_hold _ _ (below_from_all c cs h.0) (rising_from_sorted cs h.1)

pub rising_from_adjacent : (cs : List Cell) (d : Cell) → ((k : ℕ) → k + 1 < length cs → cell_cmp (slice_index_or cs k d) (slice_index_or cs (k + 1) d) ≡ Less) → T (is_rising cs)
rising_from_adjacent cs d h = rising_from_sorted cs (sorted_from_all_adjacent cell_cmp_total cs d h)

or_twice : (a b : Bool) → (a || (a || b)) ≡ (a || b)
or_twice true b = refl
or_twice false b = refl

module _ (same : Cell → Cell → Bool) (exact : (a b : Cell) → same a b ≡ true → a ≡ b) (p : Cell → Bool) where
  list_any-dedup_from : (k : Cell) (cs : List Cell) → list_any p (lists.dedup_from same k cs) ≡ (p k || list_any p cs)
  list_any-dedup_from k [] = refl
  list_any-dedup_from k (c ∷ cs) =
      elim (same c k) as (λ b. same c k ≡ b → list_any p (cond b (lists.dedup_from same k cs) (k ∷ lists.dedup_from same c cs)) ≡ (p k || (p c || list_any p cs))) [
        | true ↦ λ e. list_any-dedup_from k cs ∙ sym (or_twice (p k) (list_any p cs)) ∙ ap (λ d. p k || (p d || list_any p cs)) (sym (exact c k e))
        | false ↦ λ e. ap (λ b. p k || b) (list_any-dedup_from c cs)
      ] refl

  pub list_any-dedup : (cs : List Cell) → list_any p (dedup same cs) ≡ list_any p cs
  list_any-dedup [] = refl
  list_any-dedup (c ∷ cs) = list_any-dedup_from c cs

pub same_places-is : (a b : Cell) → Decides (same_places a b) (a ≡ b)
same_places-is a b =
    Decides-like {P = (a.0 ≡ b.0) × (a.1 ≡ b.1)} {Q = a ≡ b} _ (λ e. pair e.0 e.1) (λ e. (ap (λ c. c.0) e, ap (λ c. c.1) e))
    (Decides-and _ _ (Decides-int_eq a.0 b.0) (Decides-int_eq a.1 b.1))

-- what a sort and `dedup` leave
module _ (sorted : List Cell) (left : List Cell) (filtered : IsFiltered (DiffersFromLast same_places) [] sorted left) where
  pub left_is : left ≡ dedup same_places sorted
  left_is = dedup_is same_places sorted left filtered

  pub left_rises : IsSorted cell_cmp sorted → T (is_rising left)
  left_rises h =
      subst (λ cs. T (is_rising cs)) (sym left_is)
      (rising_from_sorted _ (IsStrictlySortedBy-dedup cell_cmp_total (λ a b. same_from_decides _ _ (same_places-is a b) (same_cell-is a b)) sorted h))

  pub left_has : (c : Cell) → list_any (same_cell c) left ≡ list_any (same_cell c) sorted
  left_has c = ap (list_any (same_cell c)) left_is ∙ list_any-dedup same_places (λ a b. (same_places-is a b).0) (same_cell c) sorted

  pub left_all : (P : Cell → Type 0) → All P sorted → All P left
  left_all P all = subst (λ cs. All P cs) (sym left_is) (All-dedup same_places P sorted all)

pub is_less : (r : Ordering) → T (is_lt r) → r ≡ Less
is_less Less h = refl
is_less Equal h = absurd h
is_less Greater h = absurd h

pub less_from : (r : Ordering) → is_lt r ≡ true → r ≡ Less
less_from r h = is_less r (subst T (sym h) tt)

pub all_from_below : (c : Cell) (cs : List Cell) → T (below_all c cs) → AllByRecursion (λ d. cell_cmp c d ≡ Less) cs
all_from_below c [] h = tt
all_from_below c (d ∷ ds) h = (is_less (cell_cmp c d) (first_holds _ _ h), all_from_below c ds (second_holds _ _ h))

pub sorted_from_rising : (cs : List Cell) → T (is_rising cs) → IsStrictlySortedBy cell_cmp cs
unfolding IsStrictlySortedBy
sorted_from_rising [] h = tt
sorted_from_rising (c ∷ cs) h = (all_from_below c cs (first_holds _ _ h), sorted_from_rising cs (second_holds _ _ h))

-- two lists with the same elements make the same set
pub same_sets : (cs ds : List Cell) → ((c : Cell) → list_any (same_cell c) cs ≡ list_any (same_cell c) ds) → from_list cs ≡ from_list ds
same_sets cs ds h = same_members _ _ (λ c. contains-from_list cs c ∙ h c ∙ sym (contains-from_list ds c))

-- the set without a member is empty
pub empty_from_cells : (G : Generation) → cells G ≡ [] → G ≡ empty
empty_from_cells G e = sym (from_list-cells G) ∙ ap from_list e

pub cells_of_empty : (G : Generation) → G ≡ empty → cells G ≡ []
cells_of_empty G e = ap cells e ∙ cells-from_list [] tt

-- a list with a first element is not empty
has_length : (n m : ℕ) (b : Bool) → b ≡ (m == 0) → m ≡ n + 1 → IsTrue b → ⊥
has_length n m b t e h = grind (arith, nat_tests)

pub empty_test : (G : Generation) (cs : List Cell) (b : Bool) → cs ≡ cells G → b ≡ (length cs == 0) → (IsTrue b → G ≡ empty) × (G ≡ empty → IsTrue b)
empty_test G [] b e t = (λ h. empty_from_cells G (sym e), λ h. t)
empty_test G (c ∷ cs) b e t =
    (λ h. absurd (has_length (length cs) (length (c ∷ cs)) b t (omega arith) h), λ h. let none : c ∷ cs ≡ [] = e ∙ cells_of_empty G h in absurd (cc))
