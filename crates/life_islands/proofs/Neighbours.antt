-- A cell near another is one of the eight around it.
use Rattle.std.proofs.Common.{◌≡◌, ℕ, ◌<◌, ◌-ℤ◌, inl, inr, arith}
use Rattle.std.proofs.lemmas.Int.{ints}
use Rattle.life_model.specs.Cell.{Cell, IsNear}
use Rattle.life_model.proofs.Cells.{pair}
use Rattle.life_islands.specs.Seats.{cell_at}
use Rattle.life_objects.proofs.Ring.{three}

-- a cell near a place other than it is one of the eight around
pub seated : (x c : Cell) → IsNear c x → (c ≡ x → ⊥) → (n : ℕ) × (n < 8) × (cell_at x n ≡ c)
seated x c near other =
    let left = near.left in
    let right = near.right in
    let above = near.above in
    let below = near.below in
    let dx = three (c.0 -ℤ x.0) (omega (arith, ints)) (omega (arith, ints)) in
    let dy = three (c.1 -ℤ x.1) (omega (arith, ints)) (omega (arith, ints)) in
    elim dx [
      | inl a ↦ elim dy [
        | inl b ↦ (0, omega arith, pair (omega (arith, ints)) (omega (arith, ints)))
        | inr q ↦ elim q [
          | inl b ↦ (3, omega arith, pair (omega (arith, ints)) (omega (arith, ints)))
          | inr b ↦ (5, omega arith, pair (omega (arith, ints)) (omega (arith, ints)))
        ]
      ]
      | inr p ↦ elim p [
        | inl a ↦ elim dy [
          | inl b ↦ (1, omega arith, pair (omega (arith, ints)) (omega (arith, ints)))
          | inr q ↦ elim q [
            | inl b ↦ absurd (other (pair (omega (arith, ints)) (omega (arith, ints))))
            | inr b ↦ (6, omega arith, pair (omega (arith, ints)) (omega (arith, ints)))
          ]
        ]
        | inr a ↦ elim dy [
          | inl b ↦ (2, omega arith, pair (omega (arith, ints)) (omega (arith, ints)))
          | inr q ↦ elim q [
            | inl b ↦ (4, omega arith, pair (omega (arith, ints)) (omega (arith, ints)))
            | inr b ↦ (7, omega arith, pair (omega (arith, ints)) (omega (arith, ints)))
          ]
        ]
      ]
    ]
