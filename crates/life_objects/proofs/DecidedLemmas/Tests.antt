-- What the tests say.
use Rattle.std.proofs.Common.{◌≡◌, ℕ, zero, suc, ◌<◌, ◌≤◌, ℤ, pos, negsuc, neg_ℤ, ◌-ℤ◌, ◌≤ℤ◌, Bool, true, false, not}
use Rattle.std.proofs.Common.{◌&&◌, inl, inr, List, [], ◌∷◌, get_or, sym, refl, ap, ◌∙◌, true≢false, Decides}
use Rattle.std.proofs.Common.{arith}
use Rattle.std.specs.Prelude.{nat_le, unsigned_abs}
use Rattle.std.specs.List.{AllPairs, list_all, list_any}
use Rattle.std.proofs.lemmas.Int.{ints}
use Rattle.std.proofs.lemmas.Bool.{and_from, cases_lt, leb-true, le-leb, and_parts}
use Rattle.std.proofs.lemmas.Bool.Decides.{Decides-like}
use Rattle.std.proofs.lemmas.List.Folds.{Any-from_list_any, list_any_at}
use Rattle.std.proofs.lemmas.List.Sums.{AllPass-from_list_all, list_all-from_AllPass}
use Rattle.std.proofs.lemmas.List.Kept.{AllPairs-cons}
use Rattle.std.proofs.lemmas.Slice.Eq.{slice_eq-Decides}
use Rattle.life_model.specs.Cell.{Cell, same_cell}
use Rattle.life_model.specs.Generation.{Generation, cells, contains, from_list}
use Rattle.life_model.proofs.Cells.{same_cell-is}
use Rattle.life_model.proofs.Generations.{contains-cells, from_list-cells}
use Rattle.life_objects.specs.Apart.{AreApart, AreNear}
use Rattle.life_objects.proofs.Lists.{AllPairs-head, AllPairs-nil, AllPairs-tail}
use Rattle.life_objects.specs.Decided.Tests.{are_near, each_below, each_pair, meet, same_set}

pub not_true : (a : Bool) → not a ≡ true → a ≡ true → ⊥
not_true true h k = true≢false (sym h)
not_true false h k = true≢false (sym k)

pub true_not : (a : Bool) → (a ≡ true → ⊥) → not a ≡ true
true_not true h = absurd (h refl)
true_not false h = refl

-- ---- of each

module _ (test : ℕ → Bool) where
  pub each_below_tells : (n m : ℕ) → each_below test n ≡ true → m < n → test m ≡ true
  each_below_tells zero m h l = absurd (omega arith)
  each_below_tells (suc n) m h l =
      let parts = and_parts (test n) (each_below test n) h in
      elim (cases_lt m n) [
        | inl below ↦ each_below_tells n m parts.1 below
        | inr last ↦ ap test (let e : m ≡ n = omega arith in e) ∙ parts.0
      ]

  pub each_below_by : (n : ℕ) → ((m : ℕ) → m < n → test m ≡ true) → each_below test n ≡ true
  each_below_by zero h = refl
  each_below_by (suc n) h =
      and_from (test n) (each_below test n) (h n (omega arith)) (each_below_by n (λ m l. h m (omega arith)))

module _ {X : Type 0} (test : X → X → Bool) where
  pub each_pair_tells : (xs : List X) → each_pair test xs ≡ true → AllPairs (λ x y. test x y ≡ true) xs
  each_pair_tells [] h = AllPairs-nil (λ x y. test x y ≡ true)
  each_pair_tells (x ∷ xs) h =
      let parts = and_parts (list_all (test x) xs) (each_pair test xs) h in
      AllPairs-cons (λ x y. test x y ≡ true) x xs (AllPass-from_list_all (test x) xs parts.0)
      (each_pair_tells xs parts.1)

  pub each_pair_by : (xs : List X) → AllPairs (λ x y. test x y ≡ true) xs → each_pair test xs ≡ true
  each_pair_by [] all = refl
  each_pair_by (x ∷ xs) all =
      and_from (list_all (test x) xs) (each_pair test xs)
      (list_all-from_AllPass (test x) xs (AllPairs-head (λ x y. test x y ≡ true) x xs all))
      (each_pair_by xs (AllPairs-tail (λ x y. test x y ≡ true) x xs all))

-- ---- of sets

pub same_set-is : (G H : Generation) → Decides (same_set G H) (G ≡ H)
same_set-is G H =
    Decides-like (same_set G H) (λ e. sym (from_list-cells G) ∙ ap from_list e ∙ from_list-cells H) (λ e. ap cells e)
    (slice_eq-Decides same_cell-is (cells G) (cells H) (same_set G H) refl)

-- what a coordinate is whose size is at most r
pub abs_small : (x : ℤ) (r : ℕ) → unsigned_abs x ≤ r → (neg_ℤ (pos r) ≤ℤ x) × (x ≤ℤ pos r)
abs_small (pos n) r h = (omega (arith, ints), omega (arith, ints))
abs_small (negsuc n) r h = (omega (arith, ints), omega (arith, ints))

pub small_abs : (x : ℤ) (r : ℕ) → neg_ℤ (pos r) ≤ℤ x → x ≤ℤ pos r → unsigned_abs x ≤ r
small_abs (pos n) r h k = omega (arith, ints)
small_abs (negsuc n) r h k = omega (arith, ints)

-- the test whether two cells are at most r apart, across and along
abbrev pub within : ℕ → Cell → Cell → Bool
within r c d = nat_le (unsigned_abs (c.0 -ℤ d.0)) r && nat_le (unsigned_abs (c.1 -ℤ d.1)) r

pub within_tells : (r : ℕ) (c d : Cell) → within r c d ≡ true →
    ((neg_ℤ (pos r) ≤ℤ (c.0 -ℤ d.0)) × ((c.0 -ℤ d.0) ≤ℤ pos r)) ×
    ((neg_ℤ (pos r) ≤ℤ (c.1 -ℤ d.1)) × ((c.1 -ℤ d.1) ≤ℤ pos r))
within_tells r c d h =
    let parts = and_parts (nat_le (unsigned_abs (c.0 -ℤ d.0)) r) (nat_le (unsigned_abs (c.1 -ℤ d.1)) r) h in
    (abs_small (c.0 -ℤ d.0) r (leb-true (unsigned_abs (c.0 -ℤ d.0)) r parts.0), abs_small (c.1 -ℤ d.1) r (leb-true (unsigned_abs (c.1 -ℤ d.1)) r parts.1))

pub within_by : (r : ℕ) (c d : Cell) →
    neg_ℤ (pos r) ≤ℤ (c.0 -ℤ d.0) → (c.0 -ℤ d.0) ≤ℤ pos r → neg_ℤ (pos r) ≤ℤ (c.1 -ℤ d.1) → (c.1 -ℤ d.1) ≤ℤ pos r →
    within r c d ≡ true
within_by r c d left right above below =
    and_from (nat_le (unsigned_abs (c.0 -ℤ d.0)) r) (nat_le (unsigned_abs (c.1 -ℤ d.1)) r)
    (le-leb (unsigned_abs (c.0 -ℤ d.0)) r (small_abs (c.0 -ℤ d.0) r left right))
    (le-leb (unsigned_abs (c.1 -ℤ d.1)) r (small_abs (c.1 -ℤ d.1) r above below))

near_by_test : (c d : Cell) → are_near c d ≡ true → AreNear c d
near_by_test c d h =
    let small = within_tells 2 c d h in
    let across = small.0 in
    let along = small.1 in
    record {
      left = omega (arith, ints);
      right = omega (arith, ints);
      above = omega (arith, ints);
      below = omega (arith, ints);
    }

test_by_near : (c d : Cell) → AreNear c d → are_near c d ≡ true
test_by_near c d h =
    within_by 2 c d (omega (arith, ints)) (omega (arith, ints)) (omega (arith, ints)) (omega (arith, ints))

pub passing_member : (p : Cell → Bool) (P : Generation) → list_any p (cells P) ≡ true →
    (c : Cell) × (contains P c ≡ true) × (p c ≡ true)
passing_member p P h =
    let one = Any-from_list_any p (cells P) h in
    let x = one.1 in
    let at = get_or (cells P) one.0 x in
    let same : same_cell x at ≡ true = (same_cell-is x at).1 (sym one.3) in
    (x, contains-cells P x ∙ list_any_at (same_cell x) (cells P) one.0 x one.2 same, one.4)

pub member_passes : (p : Cell → Bool) (P : Generation) (c : Cell) → contains P c ≡ true → p c ≡ true →
    list_any p (cells P) ≡ true
member_passes p P c h k =
    let one = Any-from_list_any (same_cell c) (cells P) (sym (contains-cells P c) ∙ h) in
    let x = one.1 in
    list_any_at p (cells P) one.0 x one.2 (ap p (one.3 ∙ sym ((same_cell-is c x).0 one.4)) ∙ k)

pub apart_by_test : (P Q : Generation) → (meet P Q ≡ true → ⊥) → AreApart P Q
unfolding meet
apart_by_test P Q none c d h k near =
    none (member_passes (λ c. list_any (are_near c) (cells Q)) P c h
    (member_passes (are_near c) Q d k (test_by_near c d near)))

pub test_by_apart : (P Q : Generation) → AreApart P Q → meet P Q ≡ true → ⊥
unfolding meet
test_by_apart P Q far met =
    let c = passing_member (λ c. list_any (are_near c) (cells Q)) P met in
    let d = passing_member (are_near c.0) Q c.2 in
    far c.0 d.0 c.1 d.1 (near_by_test c.0 d.0 d.2)
