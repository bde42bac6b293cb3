-- Cells in order, and those of one row among them.
use Rattle.std.proofs.Common.{◌≡◌, ℕ, zero, suc, ◌+◌, ◌<◌, ◌≤◌, ℤ, pos, ◌+ℤ◌, ◌-ℤ◌, ◌≤ℤ◌, ◌<ℤ◌, true, false, cond}
use Rattle.std.proofs.Common.{◌⊎◌, inl, inr, T, List, [], ◌∷◌, length, get_or, int_lt}
use Rattle.std.proofs.Common.{Less, sym, refl, ap, subst, ◌∙◌, true≢false, arith}
use Rattle.std.specs.List.Sorted.{IsPartitionedBy, IsStrictlySortedBy}
use Rattle.std.specs.Ordering.{int_eq}
use Rattle.std.proofs.lemmas.Bool.{cases_lt}
use Rattle.std.proofs.lemmas.Bool.Decides.{Decides-int_eq}
use Rattle.std.proofs.lemmas.Int.{by_lt_z, ints}
use Rattle.std.proofs.lemmas.List.Elements.{All-from_recursion}
use Rattle.life_model.specs.Cell.{Cell, cell_cmp, plus}
use Rattle.life_model.specs.Generation.{is_rising}
use Rattle.life_model.proofs.Cells.{later_cell}
use Rattle.life_cells.proofs.Sorted.{sorted_from_rising}
use Rattle.life_objects.specs.Apart.{AreNear}
use Rattle.life_objects.proofs.Distances.{AreNear-alike, AreNear-swap}
use Rattle.life_orbit.specs.Clear.{AreClear, IsClearOf, IsFree, comes_before}
use Rattle.life_orbit.proofs.Watching.{further}

-- ---- the order

-- b is in a later row, or in the same and not before a
abbrev pub IsFrom : Cell → Cell → Type 0
IsFrom a b = (a.1 <ℤ b.1) ⊎ ((a.1 ≡ b.1) × (a.0 ≤ℤ b.0))

abbrev pub Rise : List Cell → Type 0
Rise cs = (i j : ℕ) (d : Cell) → i ≤ j → j < length cs → IsFrom (get_or cs i d) (get_or cs j d)

sorted_rise : (cs : List Cell) → IsStrictlySortedBy cell_cmp cs → Rise cs
unfolding IsStrictlySortedBy
sorted_rise [] h i j d k l = absurd (omega arith)
sorted_rise (c ∷ cs) h zero zero d k l = inr (refl, omega (arith, ints))
sorted_rise (c ∷ cs) h zero (suc j) d k l =
    later_cell c (get_or cs j d) (All-from_recursion (λ y. cell_cmp c y ≡ Less) cs h.0 j d (omega arith))
sorted_rise (c ∷ cs) h (suc i) zero d k l = absurd (omega arith)
sorted_rise (c ∷ cs) h (suc i) (suc j) d k l = sorted_rise cs h.1 i j d (omega arith) (omega arith)

pub cells_rise : (cs : List Cell) → T (is_rising cs) → Rise cs
cells_rise cs h = sorted_rise cs (sorted_from_rising cs h)

-- ---- a row and a column

abbrev pub IsBefore : ℤ → ℤ → Cell → Type 0
IsBefore row column c = (c.1 <ℤ row) ⊎ ((c.1 ≡ row) × (c.0 <ℤ column))

abbrev pub IsNotBefore : ℤ → ℤ → Cell → Type 0
IsNotBefore row column c = (row <ℤ c.1) ⊎ ((c.1 ≡ row) × (column ≤ℤ c.0))

less : (x y : ℤ) → int_lt x y ≡ true → x <ℤ y
less x y e = grind (arith, ints)

not_less : (x y : ℤ) → int_lt x y ≡ false → y ≤ℤ x
not_less x y e = grind (arith, ints)

further_down : (x y : ℤ) → int_eq x y ≡ false → y ≤ℤ x → y <ℤ x
further_down x y e h =
    by_lt_z y x (λ k. k) (λ k. absurd (true≢false (sym ((Decides-int_eq x y).1 (omega (arith, ints))) ∙ e)))

before_from : (row column : ℤ) (c : Cell) → comes_before row column c ≡ true → IsBefore row column c
before_from row column c h =
    elim (int_eq c.1 row) as (λ b.
    int_eq c.1 row ≡ b → cond b (int_lt c.0 column) (int_lt c.1 row) ≡ true → IsBefore row column c) [
      | true ↦ λ e k. inr ((Decides-int_eq c.1 row).0 e, less c.0 column k)
      | false ↦ λ e k. inl (less c.1 row k)
    ] refl h

pub not_before_from : (row column : ℤ) (c : Cell) → comes_before row column c ≡ false → IsNotBefore row column c
not_before_from row column c h =
    elim (int_eq c.1 row) as (λ b.
    int_eq c.1 row ≡ b → cond b (int_lt c.0 column) (int_lt c.1 row) ≡ false → IsNotBefore row column c) [
      | true ↦ λ e k. inr ((Decides-int_eq c.1 row).0 e, not_less c.0 column k)
      | false ↦ λ e k. inl (further_down c.1 row e (not_less c.1 row k))
    ] refl h

not_both : (row column : ℤ) (c : Cell) → IsBefore row column c → IsNotBefore row column c → ⊥
not_both row column c before not =
    elim before [
      | inl above ↦ elim not [
        | inl below ↦ omega (arith, ints)
        | inr beside ↦ let here = beside.0 in omega (arith, ints)
      ]
      | inr beside ↦
          let here = beside.0 in
          let left = beside.1 in
          elim not [
            | inl below ↦ omega (arith, ints)
            | inr on_right ↦ let right = on_right.1 in omega (arith, ints)
          ]
    ]

before_to : (row column : ℤ) (c : Cell) → IsBefore row column c → comes_before row column c ≡ true
before_to row column c before =
    elim (comes_before row column c) as (λ b. comes_before row column c ≡ b → b ≡ true) [
      | true ↦ λ e. refl
      | false ↦ λ e. absurd (not_both row column c before (not_before_from row column c e))
    ] refl

before_back : (row column : ℤ) (a b : Cell) → IsFrom a b → IsBefore row column b → IsBefore row column a
before_back row column a b from before =
    elim from [
      | inl above ↦ elim before [
        | inl higher ↦ inl (omega (arith, ints))
        | inr beside ↦ let here = beside.0 in inl (omega (arith, ints))
      ]
      | inr same ↦
          let row_is = same.0 in
          let order = same.1 in
          elim before [
            | inl higher ↦ inl (omega (arith, ints))
            | inr beside ↦
                let here = beside.0 in
                let left = beside.1 in
                inr (omega (arith, ints), omega (arith, ints))
          ]
    ]

pub parted : (row column : ℤ) (cs : List Cell) → T (is_rising cs) → IsPartitionedBy (comes_before row column) cs
parted row column cs rising i j d k l e =
    before_to row column (get_or cs i d)
    (before_back row column (get_or cs i d) (get_or cs j d) (cells_rise cs rising i j d k l)
    (before_from row column (get_or cs j d) e))

-- ---- the first cell that is not before the row and the column

module _ (cs : List Cell) (rising : T (is_rising cs)) (row left right : ℤ) (s : ℕ)
    (before : (k : ℕ) (d : Cell) → k < s → k < length cs → comes_before row left (get_or cs k d) ≡ true) where
  not_early : (k : ℕ) (d : Cell) → k < s → k < length cs → (get_or cs k d).1 ≡ row → left ≤ℤ (get_or cs k d).0 → ⊥
  not_early k d early within here from =
      not_both row left (get_or cs k d) (before_from row left (get_or cs k d) (before k d early within)) (inr (here, from))

  pub free_at_end : length cs ≤ s → IsFree row left right cs
  free_at_end none k d within here from to = not_early k d (omega arith) within here from

  module _ (within_all : s < length cs) (next : Cell) (is : (d : Cell) → get_or cs s d ≡ next) where
    later : (k : ℕ) (d : Cell) → s ≤ k → k < length cs → IsFrom next (get_or cs k d)
    later k d h within = subst (λ a. IsFrom a (get_or cs k d)) (is d) (cells_rise cs rising s k d h within)

    free_from : ((c : Cell) → IsFrom next c → c.1 ≡ row → c.0 ≤ℤ right → ⊥) → IsFree row left right cs
    free_from past k d within here from to =
        elim (cases_lt k s) [
          | inl early ↦ not_early k d early within here from
          | inr late ↦ past (get_or cs k d) (later k d late within) here to
        ]

    pub free_of_row : IsNotBefore row left next → (next.1 ≡ row → ⊥) → IsFree row left right cs
    free_of_row not other =
        free_from (λ c from here to.
        elim not [
          | inl below ↦ elim from [
            | inl lower ↦ omega (arith, ints)
            | inr same ↦ let row_is = same.0 in omega (arith, ints)
          ]
          | inr beside ↦ other beside.0
        ])

    pub free_past_right : next.1 ≡ row → right <ℤ next.0 → IsFree row left right cs
    free_past_right there past =
        free_from (λ c from here to.
        elim from [
          | inl lower ↦ omega (arith, ints)
          | inr same ↦ let order = same.1 in omega (arith, ints)
        ])

    pub not_free : IsNotBefore row left next → next.1 ≡ row → next.0 ≤ℤ right → IsFree row left right cs → ⊥
    not_free not there to free =
        elim not [
          | inl below ↦ omega (arith, ints)
          | inr beside ↦ free s next within_all (ap (λ (c : Cell). c.1) (is next) ∙ there)
              (subst (λ (c : Cell). left ≤ℤ c.0) (sym (is next)) beside.1)
              (subst (λ (c : Cell). c.0 ≤ℤ right) (sym (is next)) to)
        ]

-- ---- the five rows about a cell

-- the first n of them are free, from two columns before it to two after it
abbrev pub AreFree : Cell → ℕ → List Cell → Type 0
AreFree c n ds = (k : ℕ) → k < n → IsFree ((c.1 -ℤ pos 2) +ℤ pos k) (c.0 -ℤ pos 2) (c.0 +ℤ pos 2) ds

free_same : (ds : List Cell) (row left right r s t : ℤ) → row ≡ r → left ≡ s → right ≡ t → IsFree row left right ds →
    IsFree r s t ds
free_same ds row left right r s t a b c free k d h here from to =
    free k d h (omega (arith, ints)) (omega (arith, ints)) (omega (arith, ints))

pub free_more : (c : Cell) (n : ℕ) (ds : List Cell) (row left right : ℤ) → row ≡ (c.1 -ℤ pos 2) +ℤ pos n → left ≡ c.0 -ℤ pos 2 →
    right ≡ c.0 +ℤ pos 2 → AreFree c n ds → IsFree row left right ds → AreFree c (n + 1) ds
free_more c n ds row left right a b e so_far free k h =
    elim (cases_lt k n) [
      | inl early ↦ so_far k early
      | inr late ↦
          let last : n ≡ k = omega arith in
          subst (λ m. IsFree ((c.1 -ℤ pos 2) +ℤ pos m) (c.0 -ℤ pos 2) (c.0 +ℤ pos 2) ds) last
          (free_same ds row left right _ _ _ a b e free)
    ]

pub clear_from_free : (c : Cell) (ds : List Cell) → AreFree c 5 ds → IsClearOf c ds
clear_from_free c ds free k d h near =
    let left = near.left in
    let right = near.right in
    let above = near.above in
    let below = near.below in
    let v = further (get_or ds k d).1 (c.1 -ℤ pos 2) (omega (arith, ints)) in
    let row = v.1 in
    free v.0 (omega (arith, ints)) k d h row (omega (arith, ints)) (omega (arith, ints))

pub free_from_clear : (c : Cell) (n : ℕ) (ds : List Cell) (row left right : ℤ) → n < 5 → row ≡ (c.1 -ℤ pos 2) +ℤ pos n →
    left ≡ c.0 -ℤ pos 2 → right ≡ c.0 +ℤ pos 2 → IsClearOf c ds → IsFree row left right ds
free_from_clear c n ds row left right few a b e clear k d h here from to =
    clear k d h (record {
      left = omega (arith, ints);
      right = omega (arith, ints);
      above = omega (arith, ints);
      below = omega (arith, ints);
    })

-- ---- two lists, the other way round

near_turned : (c d by x : Cell) → by.0 +ℤ x.0 ≡ pos 0 → by.1 +ℤ x.1 ≡ pos 0 → AreNear (plus d x) c → AreNear (plus c by) d
near_turned c d by x across down near =
    AreNear-alike c (plus d x) (plus c by) d (omega (arith, ints)) (omega (arith, ints)) (AreNear-swap (plus d x) c near)

pub clear_turned : (cs ds : List Cell) (by x : Cell) → by.0 +ℤ x.0 ≡ pos 0 → by.1 +ℤ x.1 ≡ pos 0 → AreClear cs by ds →
    AreClear ds x cs
clear_turned cs ds by x across down clear j e within k d h near =
    clear k d h j e within (near_turned (get_or cs k d) (get_or ds j e) by x across down near)
