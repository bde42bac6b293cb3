-- Stores that forget, and the first store.
use Rattle.std.proofs.Common.{◌≡◌, ℕ, zero, suc, ◌+◌, ◌^◌, ◌<◌, ◌≤◌, ⊎_elim, min, List, length, slice_index_or, Some, None, sym, subst, ap, ◌∙◌, arith}
use Rattle.life_model.specs.Rule.{Rule}
use Rattle.life_slots.specs.declared.leaf.Leaf.{Leaf}
use Rattle.life_slots.specs.Leaves.{leaf_cell}
use Rattle.life_advance.specs.declared.leaps.square.Quarters.{Quarters}
use Rattle.life_advance.specs.declared.leaps.square.Square.{Square}
use Rattle.life_advance.specs.Leaps.Places.{empty_at}
use Rattle.life_advance.specs.Leaps.Squares.{View, IsAt, AreAt, jump, IsMiddle, IsKept, AreRight, Extends, Forgets}
use Rattle.life_advance.specs.Leaps.Stores.{listed, no_leaf, no_square, empty_square}
use Rattle.life_advance.proofs.LeapsLemmas.Growth.{either, middle-extends}
use Rattle.life_advance.proofs.LeapsLemmas.Appended.{kept-extends}

-- ---- a store that forgets

pub forgets-extends : (least : ℕ) (v w : View) → Forgets least v w → Extends v w
forgets-extends least v w f = record {
  leaf = λ i h. f.leaf i;
  leaves = let e : w.leaves ≡ v.leaves = f.leaves in omega arith;
  quarters = λ i h. f.quarters i;
  level = λ i h. f.level i;
  squares = let e : w.squares ≡ v.squares = f.squares in omega arith;
}

pub forgets-kept : (least : ℕ) (v w : View) → IsKept v → Forgets least v w → IsKept w
forgets-kept least v w kept f =
    let e : w.squares ≡ v.squares = f.squares in
    kept-extends v w kept (forgets-extends least v w f) (λ i h k. absurd (omega arith))

pub forgets-right : (rule : Rule) (e f : ℕ) (least : ℕ) (v w : View) → IsKept v → Forgets least v w → AreRight rule e v → ((n : ℕ) → n < least → min e (n + 4) ≡ min f (n + 4)) → AreRight rule f w
forgets-right rule e f least v w kept forgets right alike i h later is =
    let same : w.squares ≡ v.squares = forgets.squares in
    let inside : i < v.squares = omega arith in
    ⊎_elim
    (λ (low : (v.square i).level < least).
    let n : ℕ = (v.square i).level in
    let was : (v.square i).later ≡ Some later = sym (forgets.later i low) ∙ is in
    let m : IsMiddle rule (jump e (v.square i).level) w (v.square i).level (v.square i).quarters w later =
    middle-extends rule _ v w _ _ later kept (forgets-extends least v w forgets) (kept.quarters i inside) (right i inside later was) in
    let a : jump e (v.square i).level ≡ jump f (v.square i).level = ap (λ k. 2 ^ k) (alike (v.square i).level low) in
    let P : ℕ → Type 0 = λ k. IsMiddle rule k w (v.square i).level (v.square i).quarters w later in
    let Q : ℕ → Type 0 = λ n. IsMiddle rule (jump f n) w n (w.square i).quarters w later in
    let R : Quarters → Type 0 = λ q. IsMiddle rule (jump f (v.square i).level) w (v.square i).level q w later in
    subst Q (sym (forgets.level i)) (subst R (sym (forgets.quarters i)) (subst P a m)))
    (λ (high : least ≤ (v.square i).level).
    let none : (w.square i).later ≡ None = forgets.forgotten i inside high in
    let never : None ≡ Some later = sym none ∙ is in
    absurd cc)
    (either (v.square i).level least)

-- ---- the first store

module _ (ls : List Leaf) (qs : List Square) (some : 0 < length ls) (leaf : (x y : ℕ) → leaf_cell (slice_index_or ls 0 no_leaf) x y ≡ 0)
    (len : length qs ≡ 21) (each : (i : ℕ) → i < 21 → slice_index_or qs i no_square ≡ empty_square i) where
  empty-at : (n : ℕ) → n < 21 → IsAt (listed ls qs) n (empty_at n)
  empty-at zero h = let e : empty_at 0 ≡ 0 = omega arith in omega arith
  empty-at (suc n) h =
      let e : empty_at (suc n) ≡ n = omega arith in
      let P : ℕ → Type 0 = λ i. IsAt (listed ls qs) (suc n) i in
      subst P (sym e) (omega arith, ap (λ (s : Square). s.level) (each n (omega arith)))

  pub kept-new : IsKept (listed ls qs)
  kept-new = record {
    leaf = leaf;
    some = some;
    empty = λ n h. ap (λ (s : Square). s.level) (each n h);
    none = λ n h. ap (λ (s : Square). s.quarters) (each n h);
    many = omega arith;
    quarters = λ i h.
        let inside : i < 21 = omega arith in
        let P : Square → Type 0 = λ s. AreAt (listed ls qs) s.level s.quarters in
        subst P (sym (each i inside)) (record { north_west = empty-at i inside; north_east = empty-at i inside; south_west = empty-at i inside; south_east = empty-at i inside });
  }

  pub right-new : (rule : Rule) (e : ℕ) → AreRight rule e (listed ls qs)
  right-new rule e i h later is =
      let none : (slice_index_or qs i no_square).later ≡ None = ap (λ (s : Square). s.later) (each i (omega arith)) in
      let never : None ≡ Some later = sym none ∙ is in
      absurd cc
