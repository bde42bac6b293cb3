-- Cells in order have rows and numbers that don't fall. Those with other rows or numbers can be left out.
use Rattle.std.proofs.Common.{◌≡◌, ℕ, zero, suc, ◌+◌, ◌-◌, ◌<◌, ◌≤◌, ℤ, ◌≤ℤ◌, ◌<ℤ◌, Bool, true}
use Rattle.std.proofs.Common.{false, cond, ◌||◌, inl, inr, T, List, [], ◌∷◌}
use Rattle.std.proofs.Common.{length, get_or, take, drop, filter, int_le, int_lt, Ordering}
use Rattle.std.proofs.Common.{Less, Equal, Greater, int_cmp}
use Rattle.std.proofs.Common.{sym, refl, ap, ◌∙◌, get_or-drop, length-drop, arith}
use Rattle.std.specs.List.{All, list_any}
use Rattle.std.specs.List.Sorted.{IsPartitionedBy, IsStrictlySortedBy}
use Rattle.std.specs.Ordering.{ordering_then, MatchOrdering}
use Rattle.std.specs.Cmp.{int_ranks}
use Rattle.std.proofs.Math.Seq.{take-nil}
use Rattle.std.proofs.lemmas.Bool.{false_from_ne_true}
use Rattle.std.proofs.lemmas.Int.{ints}
use Rattle.std.proofs.lemmas.List.Elements.{All-from_recursion, All-head, All-tail}
use Rattle.std.proofs.lemmas.List.{get_or_default}
use Rattle.std.proofs.lemmas.List.Folds.{Any-from_list_any}
use Rattle.life_model.specs.Cell.{Cell, cell_cmp, same_cell}
use Rattle.life_model.specs.Generation.{is_rising}
use Rattle.life_model.proofs.Cells.{same_cell-is, later_cell}
use Rattle.life_cells.specs.Limits.{IsPlace}
use Rattle.life_cells.proofs.Sorted.{sorted_from_rising}
use Rattle.life_classes.specs.Tags.{place_number}

not_below : (x y : ℤ) (r s : Ordering) → MatchOrdering r (x <ℤ y) (x ≡ y) (y <ℤ x) → ordering_then r s ≡ Less → x ≤ℤ y
not_below x y Less s h e = omega (arith, ints)
not_below x y Equal s h e = omega (arith, ints)
not_below x y Greater s h e = cc

row_not_below : (a b : Cell) → cell_cmp a b ≡ Less → a.1 ≤ℤ b.1
row_not_below a b e = not_below a.1 b.1 (int_cmp a.1 b.1) (int_cmp a.0 b.0) (int_ranks a.1 b.1) e

number_not_below : (a b : Cell) → cell_cmp a b ≡ Less → IsPlace a → IsPlace b → place_number a ≤ℤ place_number b
number_not_below a b e p q =
    let left = p.left in
    let right = p.right in
    let left_too = q.left in
    let right_too = q.right in
    elim (later_cell a b e) [
      | inl above ↦ omega (arith, ints)
      | inr beside ↦
          let row = beside.0 in
          let further = beside.1 in
          omega (arith, ints)
    ]

-- a number of the cells doesn't fall from each cell to the next
abbrev pub Rise : (Cell → ℤ) → List Cell → Type 0
Rise key cs = (i j : ℕ) (d : Cell) → i ≤ j → j < length cs → key (get_or cs i d) ≤ℤ key (get_or cs j d)

sorted_rise : (key : Cell → ℤ) (P : Cell → Type 0) →
    ((a b : Cell) → cell_cmp a b ≡ Less → P a → P b → key a ≤ℤ key b) → (cs : List Cell) →
    IsStrictlySortedBy cell_cmp cs → All P cs → Rise key cs
unfolding IsStrictlySortedBy
sorted_rise key P step [] h all i j d k l = absurd (omega arith)
sorted_rise key P step (c ∷ cs) h all zero zero d k l = omega (arith, ints)
sorted_rise key P step (c ∷ cs) h all zero (suc j) d k l =
    step c (get_or cs j d) (All-from_recursion (λ y. cell_cmp c y ≡ Less) cs h.0 j d (omega arith)) (All-head P c cs all)
    (All-tail P c cs all j d (omega arith))
sorted_rise key P step (c ∷ cs) h all (suc i) zero d k l = absurd (omega arith)
sorted_rise key P step (c ∷ cs) h all (suc i) (suc j) d k l =
    sorted_rise key P step cs h.1 (All-tail P c cs all) i j d (omega arith) (omega arith)

pub rows_rise : (cs : List Cell) → T (is_rising cs) → Rise (λ c. c.1) cs
rows_rise cs h =
    sorted_rise (λ c. c.1) (λ c. Unit {0}) (λ a b e p q. row_not_below a b e) cs (sorted_from_rising cs h) (λ k d l. tt)

pub numbers_rise : (cs : List Cell) → T (is_rising cs) → All IsPlace cs → Rise place_number cs
numbers_rise cs h placed = sorted_rise place_number IsPlace number_not_below cs (sorted_from_rising cs h) placed

pub some_listed : (cs : List Cell) (d : Cell) → list_any (same_cell d) cs ≡ true → 0 < length cs
some_listed cs d one =
    let at = Any-from_list_any (same_cell d) cs one in
    let within : at.0 < length cs = at.2 in
    omega arith

-- the row of a listed cell is between those of the first and the last
pub between : (cs : List Cell) → T (is_rising cs) → (d x y : Cell) → list_any (same_cell d) cs ≡ true →
    ((get_or cs 0 x).1 ≤ℤ d.1) × (d.1 ≤ℤ (get_or cs (length cs - 1) y).1)
between cs h d x y one =
    let at = Any-from_list_any (same_cell d) cs one in
    let k = at.0 in
    let within : k < length cs = at.2 in
    let here : get_or cs k at.1 ≡ d = at.3 ∙ sym ((same_cell-is d at.1).0 at.4) in
    let there : (z : Cell) → (get_or cs k z).1 ≡ d.1 =
    λ z. ap (λ (c : Cell). c.1) (get_or_default cs k z at.1 within ∙ here) in
    let low = rows_rise cs h 0 k x (omega arith) within in
    let high = rows_rise cs h k (length cs - 1) y (omega arith) (omega arith) in
    let low_row = there x in
    let high_row = there y in
    (omega (arith, ints), omega (arith, ints))

not_rising : (x y t : ℤ) → x ≤ℤ y → int_lt y t ≡ true → int_lt x t ≡ true
not_rising x y t h e = grind (arith, ints)

not_rising_to : (x y t : ℤ) → x ≤ℤ y → int_le y t ≡ true → int_le x t ≡ true
not_rising_to x y t h e = grind (arith, ints)

module _ (key : Cell → ℤ) (cs : List Cell) (rise : Rise key cs) where
  pub parted_above : (top : ℤ) → IsPartitionedBy (λ c. int_lt (key c) top) cs
  parted_above top i j d k l e = not_rising _ _ top (rise i j d k l) e

  pub parted_below : (s : ℕ) (bottom : ℤ) → IsPartitionedBy (λ c. int_le (key c) bottom) (drop s cs)
  parted_below s bottom i j d k l e =
      let long = length-drop s cs in
      let up = rise (s + i) (s + j) d (omega arith) (omega arith) in
      rw get_or-drop (not_rising_to _ _ bottom up (rw get_or-drop at e))

-- ---- the elements that pass a test

module _ {X : Type 0} (p : X → Bool) where
  pub filter-drop : (xs : List X) (n : ℕ) → ((k : ℕ) (d : X) → k < n → k < length xs → p (get_or xs k d) ≡ false) →
      filter p (drop n xs) ≡ filter p xs
  filter-drop xs zero none = refl
  filter-drop [] (suc n) none = refl
  filter-drop (x ∷ xs) (suc n) none =
      filter-drop xs n (λ k d h l. none (suc k) d (omega arith) (omega arith))
      ∙ ap (λ b. cond b (x ∷ filter p xs) (filter p xs)) (sym (none 0 x (omega arith) (omega arith)))

  pub filter-take : (xs : List X) (n : ℕ) → ((k : ℕ) (d : X) → n ≤ k → k < length xs → p (get_or xs k d) ≡ false) →
      filter p (take n xs) ≡ filter p xs
  filter-take [] n none = ap (filter p) (take-nil n)
  filter-take (x ∷ xs) zero none =
      filter-take xs zero (λ k d h l. none (suc k) d (omega arith) (omega arith))
      ∙ ap (λ b. cond b (x ∷ filter p xs) (filter p xs)) (sym (none 0 x (omega arith) (omega arith)))
  filter-take (x ∷ xs) (suc n) none =
      ap (λ ys. cond (p x) (x ∷ ys) ys) (filter-take xs n (λ k d h l. none (suc k) d (omega arith) (omega arith)))

  any_kept : (b : Bool) (x : X) (ys : List X) → b ≡ p x → list_any p (cond b (x ∷ ys) ys) ≡ (p x || list_any p ys)
  any_kept true x ys e = refl
  any_kept false x ys e = ap (λ b. b || list_any p ys) e

  any-filter : (xs : List X) → list_any p (filter p xs) ≡ list_any p xs
  any-filter [] = refl
  any-filter (x ∷ xs) = any_kept (p x) x (filter p xs) refl ∙ ap (λ b. p x || b) (any-filter xs)

  pub any_by_filter : (xs ys : List X) → filter p xs ≡ filter p ys → list_any p xs ≡ list_any p ys
  any_by_filter xs ys e = sym (any-filter xs) ∙ ap (list_any p) e ∙ any-filter ys

not_above : (x t : ℤ) → int_lt x t ≡ true → t ≤ℤ x → ⊥
not_above x t e h = grind (arith, ints)

not_past : (x t : ℤ) → int_le x t ≡ false → x ≤ℤ t → ⊥
not_past x t e h = grind (arith, ints)

-- a test that only some numbers pass, over the cells with these numbers
pub keys_between : (key : Cell → ℤ) (p : Cell → Bool) (cs : List Cell) (top bottom : ℤ) (s n : ℕ) →
    ((c : Cell) → p c ≡ true → (top ≤ℤ key c) × (key c ≤ℤ bottom)) →
    ((k : ℕ) (d : Cell) → k < s → int_lt (key (get_or cs k d)) top ≡ true) →
    ((k : ℕ) (d : Cell) → n ≤ k → k < length (drop s cs) → int_le (key (get_or (drop s cs) k d)) bottom ≡ false) →
    filter p (take n (drop s cs)) ≡ filter p cs
keys_between key p cs top bottom s n only before after =
    filter-take p (drop s cs) n (λ k d h l.
    false_from_ne_true _ (λ e. not_past _ bottom (after k d h l) (only _ e).1))
    ∙ filter-drop p cs s (λ k d h l. false_from_ne_true _ (λ e. not_above _ top (before k d h) (only _ e).0))
