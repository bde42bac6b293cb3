-- The eight cells around a cell, one by one.
use Rattle.std.proofs.Common.{◌≡◌, ℕ, zero, suc, ◌+◌, ◌≤◌, ◌⊎◌, ℤ, pos, negsuc, neg_ℤ, ◌-ℤ◌, ◌≤ℤ◌, List, [], ◌∷◌, inl, inr, refl, subst, arith}
use Rattle.std.specs.List.{AllByRecursion}
use Rattle.std.proofs.lemmas.Int.{ints}
use lib.Signed.{le_z_yes}
use Rattle.life_model.specs.Cell.{Cell, IsNear, around, plus}
use Rattle.life_model.proofs.Cells.{pair}

pub three : (z : ℤ) → neg_ℤ (pos 1) ≤ℤ z → z ≤ℤ pos 1 → (z ≡ neg_ℤ (pos 1)) ⊎ ((z ≡ pos 0) ⊎ (z ≡ pos 1))
three (pos zero) low high = inr (inl refl)
three (pos (suc zero)) low high = inr (inr refl)
three (pos (suc (suc n))) low high = absurd (omega (arith, ints))
three (negsuc zero) low high = inl refl
three (negsuc (suc n)) low high = absurd (omega (arith, ints))

-- whether a step goes one to a side at most
abbrev pub IsSmall : ℤ → Type 0
IsSmall z = (neg_ℤ (pos 1) ≤ℤ z) × (z ≤ℤ pos 1)

pub near_by_step : (x : Cell) (a b : ℤ) → IsSmall a → IsSmall b → IsNear (plus x (a, b)) x
near_by_step x a b h k = record { left = omega (arith, ints); right = omega (arith, ints); above = omega (arith, ints); below = omega (arith, ints) }

pub near_itself : (x : Cell) → IsNear x x
near_itself x = record { left = omega (arith, ints); right = omega (arith, ints); above = omega (arith, ints); below = omega (arith, ints) }

by_step : (x y : Cell) (a b : ℤ) → (y.0 -ℤ x.0) ≡ a → (y.1 -ℤ x.1) ≡ b → plus x (a, b) ≡ y
by_step x y a b h k = pair (omega (arith, ints)) (omega (arith, ints))

no_step : (x y : Cell) → (y.0 -ℤ x.0) ≡ pos 0 → (y.1 -ℤ x.1) ≡ pos 0 → x ≡ y
no_step x y h k = pair (omega (arith, ints)) (omega (arith, ints))

-- what is so of x and of the eight cells around it is so of each cell near it
pub each_near : (x : Cell) (F : Cell → Type 0) → F x → AllByRecursion F (around x) → (y : Cell) → IsNear y x → F y
each_near x F here all y near =
    let at : (a b : ℤ) → (y.0 -ℤ x.0) ≡ a → (y.1 -ℤ x.1) ≡ b → F (plus x (a, b)) → F y =
    λ a b h k f. subst F (by_step x y a b h k) f in
    let minus : ℤ = neg_ℤ (pos 1) in
    let column = three (y.0 -ℤ x.0) (omega (arith, ints)) (omega (arith, ints)) in
    elim (three (y.1 -ℤ x.1) (omega (arith, ints)) (omega (arith, ints))) [
      | inl k ↦ elim column [
        | inl h ↦ at minus minus h k all.0
        | inr (inl h) ↦ at (pos 0) minus h k all.1.0
        | inr (inr h) ↦ at (pos 1) minus h k all.1.1.0
      ]
      | inr (inl k) ↦ elim column [
        | inl h ↦ at minus (pos 0) h k all.1.1.1.0
        | inr (inl h) ↦ subst F (no_step x y h k) here
        | inr (inr h) ↦ at (pos 1) (pos 0) h k all.1.1.1.1.0
      ]
      | inr (inr k) ↦ elim column [
        | inl h ↦ at minus (pos 1) h k all.1.1.1.1.1.0
        | inr (inl h) ↦ at (pos 0) (pos 1) h k all.1.1.1.1.1.1.0
        | inr (inr h) ↦ at (pos 1) (pos 1) h k all.1.1.1.1.1.1.1.0
      ]
    ]

-- the cells of a list are all near x
near_all : (x : Cell) → AllByRecursion (λ y. IsNear y x) (around x)
near_all x =
    let minus : IsSmall (neg_ℤ (pos 1)) = (le_z_yes tt, le_z_yes tt) in
    let none : IsSmall (pos 0) = (le_z_yes tt, le_z_yes tt) in
    let one : IsSmall (pos 1) = (le_z_yes tt, le_z_yes tt) in
    (near_by_step x (neg_ℤ (pos 1)) (neg_ℤ (pos 1)) minus minus, (near_by_step x (pos 0) (neg_ℤ (pos 1)) none minus, (near_by_step x (pos 1) (neg_ℤ (pos 1)) one minus, (near_by_step x (neg_ℤ (pos 1)) (pos 0) minus none, (near_by_step x (pos 1) (pos 0) one none, (near_by_step x (neg_ℤ (pos 1)) (pos 1) minus one, (near_by_step x (pos 0) (pos 1) none one, (near_by_step x (pos 1) (pos 1) one one, tt))))))))

-- A number that is enough for each cell near x, where each has such a number and more is enough too.
module _ (F : Cell → ℕ → Type 0) (more : (y : Cell) (K L : ℕ) → K ≤ L → F y K → F y L) where
  more_of : (ys : List Cell) (K L : ℕ) → K ≤ L → AllByRecursion (λ y. F y K) ys → AllByRecursion (λ y. F y L) ys
  more_of [] K L h all = tt
  more_of (y ∷ ys) K L h all = (more y K L h all.0, more_of ys K L h all.1)

  enough_for : (near : Cell → Type 0) → ((y : Cell) → near y → (K : ℕ) × F y K) → (ys : List Cell) →
      AllByRecursion near ys → (K : ℕ) × AllByRecursion (λ y. F y K) ys
  enough_for near each [] all = (0, tt)
  enough_for near each (y ∷ ys) all =
      let one = each y all.0 in
      let rest = enough_for near each ys all.1 in
      let K = one.0 in
      let L = rest.0 in
      (K + L, (more y K (K + L) (omega arith) one.1, more_of ys L (K + L) (omega arith) rest.1))

  pub enough_near : (x : Cell) → ((y : Cell) → IsNear y x → (K : ℕ) × F y K) → (K : ℕ) × ((y : Cell) → IsNear y x → F y K)
  enough_near x each =
      let here = each x (near_itself x) in
      let rest = enough_for (λ y. IsNear y x) each (around x) (near_all x) in
      let K = here.0 in
      let L = rest.0 in
      (K + L, each_near x (λ y. F y (K + L)) (more x K (K + L) (omega arith) here.1) (more_of (around x) L (K + L) (omega arith) rest.1))
