-- Numbers that are compared, and lists that are gone through.
use Rattle.std.proofs.Common.{◌≡◌, ◌⊎◌, ℕ, ◌+◌, ◌-◌, ◌<◌, ◌≤◌, ℤ, neg_ℤ, pos, ◌+ℤ◌, ◌<ℤ◌, ◌≤ℤ◌, List, [], ◌∷◌, ◌++◌, length, get_or}
use Rattle.std.proofs.Common.{true, inl, inr, sym, ap, subst, ◌∙◌, arith, Ordering, Less, Equal, Greater, int_cmp, int_lt}
use Rattle.std.specs.Cmp.{int_ranks}
use Rattle.std.specs.List.{Contains}
use Rattle.std.specs.Ordering.{MatchOrdering}
use Rattle.std.proofs.lemmas.Bool.{cases_lt}
use Rattle.std.proofs.lemmas.Int.{ints}
use Rattle.std.proofs.lemmas.List.{get_or_append_left, get_or_default, get_or_push, length_push}
use Rattle.std.proofs.lemmas.List.Folds.{Any-from_list_any}
use Rattle.life_model.specs.Cell.{Cell, same_cell}
use Rattle.life_model.proofs.Cells.{same_cell-is}
use Rattle.life_classes.specs.declared.tags.Tag.{Tag}
use Rattle.life_classes.specs.Nearness.{lists_cell}
use Rattle.life_classes.specs.Tags.{AreFrom, AreLess, AreRisingTags, HasNoneFrom, IsFrom}

by_rank : (r : Ordering) (x y : ℤ) → MatchOrdering r (x <ℤ y) (x ≡ y) (y <ℤ x) → (x ≤ℤ y) ⊎ (y <ℤ x)
by_rank Less x y h = inl (omega (arith, ints))
by_rank Equal x y h = inl (omega (arith, ints))
by_rank Greater x y h = inr h

pub either : (x y : ℤ) → (x ≤ℤ y) ⊎ (y <ℤ x)
either x y = by_rank (int_cmp x y) x y (int_ranks x y)

pub less_by_test : (x t : ℤ) → int_lt x t ≡ true → x <ℤ t
less_by_test x t e = grind (arith, ints)

pub has_contains : (cs : List Cell) (c : Cell) → lists_cell cs c ≡ true → Contains cs c
has_contains cs c h =
    let one = Any-from_list_any (same_cell c) cs h in
    let same : c ≡ one.1 = (same_cell-is c one.1).0 one.4 in
    subst (Contains cs) (sym same) (one.0, one.2, one.3)

-- one more element passes, as those before it do
pub one_more : {X : Type 0} (P : X → Type 0) (xs : List X) (n : ℕ) (s : X) → n < length xs →
    ((k : ℕ) (d : X) → k < n → P (get_or xs k d)) → P (get_or xs n s) → (k : ℕ) (d : X) → k < n + 1 → P (get_or xs k d)
one_more P xs n s h all one k d below = elim (cases_lt k n) [
  | inl before ↦ all k d before
  | inr here ↦
      subst (λ m. P (get_or xs m d)) (let z : n ≡ k = omega arith in z) (subst P (get_or_default xs n s d h) one)
]

-- what holds of the elements of a list by their places, when one more is appended
pub pushed : {X : Type 0} (P : ℕ → X → Type 0) (xs ys : List X) (x : X) (n : ℕ) → length xs ≡ n → ys ≡ xs ++ (x ∷ []) →
    ((k : ℕ) (d : X) → k < n → P k (get_or xs k d)) → P n x → (k : ℕ) (d : X) → k < n + 1 → P k (get_or ys k d)
pushed P xs ys x n long is all one k d below = elim (cases_lt k n) [
  | inl before ↦
      subst (P k) (sym (ap (λ zs. get_or zs k d) is ∙ get_or_append_left xs (x ∷ []) d k (subst (λ m. k < m) (sym long) before)))
      (all k d before)
  | inr here ↦
      let same : n ≡ k = omega arith in
      subst (λ m. P m (get_or ys m d)) same
      (subst (P n) (sym (ap (λ zs. get_or zs n d) is ∙ get_or_push xs x d n long)) one)
]

pub length_pushed : {X : Type 0} (xs ys : List X) (x : X) (n : ℕ) → length xs ≡ n → ys ≡ xs ++ (x ∷ []) → length ys ≡ n + 1
length_pushed xs ys x n long is = ap length is ∙ length_push xs x ∙ ap (λ m. m + 1) long

-- ---- tags whose numbers are from one on

module _ (ts : List Tag) (low : ℤ) (place : ℕ) (less : AreLess ts place low) where
  pub none_past : length ts ≤ place → HasNoneFrom ts low
  none_past past k d h from to = let below = less k d (omega arith) h in omega (arith, ints)

  pub none_at : (s : Tag) → AreRisingTags ts → (low +ℤ pos 2) <ℤ (get_or ts place s).number → HasNoneFrom ts low
  none_at s rise great k d h from to = elim (cases_lt k place) [
    | inl before ↦ let below = less k d before h in omega (arith, ints)
    | inr after ↦
        let up = rise place k s after h in
        let same = ap (λ (t : Tag). t.number) (get_or_default ts k d s h) in
        omega (arith, ints)
  ]

  pub from_at : (s : Tag) → place < length ts → AreFrom ts place low → (get_or ts place s).number ≤ℤ (low +ℤ pos 2) →
      IsFrom ts low place
  from_at s inside least small = record {
    inside = inside;
    first = λ d. least place d (omega arith) inside;
    last = λ d. subst (λ (t : Tag). t.number ≤ℤ (low +ℤ pos 2)) (get_or_default ts place s d inside) small;
  }

-- ---- tags whose numbers are at most one from a number

module _ (ts : List Tag) (number : ℤ) (place : ℕ) (less : AreLess ts place number) (within : place ≤ length ts) where
  pub just_before : (s : Tag) → 0 < place → (number +ℤ neg_ℤ (pos 1)) ≤ℤ (get_or ts (place - 1) s).number →
      IsFrom ts (number +ℤ neg_ℤ (pos 1)) (place - 1)
  just_before s some near =
      let inside : place - 1 < length ts = omega arith in
      record {
        inside = inside;
        first = λ d.
            let same = ap (λ (t : Tag). t.number) (get_or_default ts (place - 1) d s inside) in
            omega (arith, ints);
        last = λ d. let below = less (place - 1) d (omega arith) inside in omega (arith, ints);
      }

  pub just_at : (s : Tag) → place < length ts → AreFrom ts place number →
      (get_or ts place s).number ≤ℤ (number +ℤ pos 1) → IsFrom ts (number +ℤ neg_ℤ (pos 1)) place
  just_at s inside least near = record {
    inside = inside;
    first = λ d. let above = least place d (omega arith) inside in omega (arith, ints);
    last = λ d.
        let same = ap (λ (t : Tag). t.number) (get_or_default ts place d s inside) in
        omega (arith, ints);
  }

  pub none_level : (s : Tag) → AreRisingTags ts →
      (place < length ts → (number +ℤ pos 1) <ℤ (get_or ts place s).number) →
      (0 < place → (get_or ts (place - 1) s).number <ℤ (number +ℤ neg_ℤ (pos 1))) →
      HasNoneFrom ts (number +ℤ neg_ℤ (pos 1))
  none_level s rise great small k d h from to =
      let same = ap (λ (t : Tag). t.number) (get_or_default ts k d s h) in
      elim (cases_lt k place) [
        | inl before ↦
            let up = rise k (place - 1) s (omega arith) (omega arith) in
            let below = small (omega arith) in
            omega (arith, ints)
        | inr after ↦
            let up = rise place k s after h in
            let above = great (omega arith) in
            omega (arith, ints)
      ]
